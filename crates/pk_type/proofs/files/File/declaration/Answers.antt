use Rattle.std.proofs.Common.{ap}
use Rattle.pk_ast.specs.Views.{declarator_trees, declaration_tree}
use Rattle.pk_type.proofs.FileLemmas.{declaration_step}
use Rattle.pk_type.proofs.files.File.declaration.Goals as goal

pub returns : goal.returns
unfolding declaration_tree
returns c =
    declaration_step c.args.storage.now (declaration_tree c.args.d.now) _ _ _ _ _ _ c.at-words.ensures (ap declarator_trees c.deref.ensures.value) c.in_ok-words.ensures c.in_ok-objects.ensures c.forget_calls.ensures
