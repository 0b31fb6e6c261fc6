use Rattle.std.proofs.lemmas.Result.{on_ok_weaker}
use Rattle.pk_draft.specs.Shown.{drafted}
use Rattle.pk_lower_row.specs.Views.{context_in}
use Rattle.pk_lower_statement.proofs.NameLemmas.{introduced_is}
use Rattle.pk_lower_statement.proofs.declarations.introduce.Goals as goal

pub returns : goal.returns
unfolding context_in
returns c =
    on_ok_weaker c.name_if.result (introduced_is (context_in c.args.context.now) c.args.object _ _ _ _ _ _ (drafted c.args.draft.now) _ _ c.variables-number.ensures c.in_ok-name.ensures c.is_some-is_named.ensures c.type_of_local.ensures c.length_of_local.ensures c.inner.ensures c.in_ok-object_is.ensures) c.name_if.ensures
