use Rattle.std.proofs.Common.{◌∙◌}
use Rattle.std.proofs.lemmas.Result.{on_ok_weaker}
use Rattle.pk_draft.specs.Shown.{drafted}
use Rattle.pk_lower.proofs.PartLemmas.{result_added}
use Rattle.pk_lower.proofs.parts.add_result.Goals as goal

pub returns-in-Some : goal.returns-in-Some
returns-in-Some c = on_ok_weaker c.object_is.result (λ h. h ∙ result_added c.args.context.now c.args.returns c.in-Some.int_type _ (drafted c.args.draft.now) c.in-Some.is c.inner.ensures) c.object_is.ensures
