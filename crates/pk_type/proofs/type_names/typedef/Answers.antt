use Rattle.std.proofs.Common.{◌∙◌, ap}
use Rattle.pk_ast.specs.Views.{typedef_tree}
use Rattle.pk_type.specs.TypeNames.{named_type}
use Rattle.pk_type.proofs.TypeNameLemmas.{typedef_step}
use Rattle.pk_type.proofs.type_names.typedef.Goals as goal

pub returns : goal.returns
unfolding typedef_tree
returns c =
    typedef_step (typedef_tree c.args.d.now) _ _ _ _ _ _ (c.named_type-named.ensures ∙ ap named_type c.at-words.ensures) c.deref.ensures.value c.in_ok-file_words.ensures c.in_ok-type_name.ensures c.in_ok-more.ensures
