use Rattle.std.proofs.Common.{◌∙◌}
use Rattle.std.proofs.lemmas.Result.{on_ok_weaker}
use Rattle.pk_draft.specs.Shown.{drafted}
use Rattle.pk_lower_row.specs.Views.{context_in}
use Rattle.pk_lower.proofs.PartLemmas.{no_part, part_is}
use Rattle.pk_lower.proofs.parts.lower_function.Goals as goal

pub returns-in-None : goal.returns-in-None
returns-in-None c = no_part (context_in c.args.context.now) c.args.function.now c.args.caller c.args.region (drafted c.args.draft.now) c.in-None.is

pub returns-in_ok-begin-in-Some : goal.returns-in_ok-begin-in-Some
returns-in_ok-begin-in-Some c =
    on_ok_weaker c.lower_body.result
    (λ h. h ∙ part_is (context_in c.args.context.now) c.args.function.now _ c.args.caller c.args.region (drafted c.args.draft.now) _ _ c.in-Some.is c.in_ok-begin-in-Some.ensures c.place_entry.ensures)
    c.lower_body.ensures
