use Rattle.std.proofs.Common.{◌∙◌}
use Rattle.std.proofs.lemmas.Result.{on_ok_weaker}
use Rattle.pk_draft.specs.Shown.{drafted}
use Rattle.pk_lower_row.specs.Views.{context_in}
use Rattle.pk_lower.proofs.PartLemmas.{own_result_is, ended_main, ended_otherwise}
use Rattle.pk_lower.proofs.parts.end.Goals as goal

pub returns-then-is_main : goal.returns-then-is_main
returns-then-is_main c =
    on_ok_weaker c.emit.result
    (λ h. h ∙ ended_main (context_in c.args.context.now) c.args.name.now c.args.returns c.in-Some.int_type _ _ _ _ (drafted c.args.draft.now) c.in-Some.is c.is_main.ensures c.if-is_main.true
    (own_result_is c.args.context.now c.args.draft.now _ c.object-variable.ensures) c.constant.ensures c.set.ensures)
    c.emit.ensures

pub returns-else-is_main : goal.returns-else-is_main
returns-else-is_main c =
    on_ok_weaker c.emit-else-is_main.result
    (λ h. h ∙ ended_otherwise (context_in c.args.context.now) c.args.name.now c.args.returns c.in-Some.int_type _ _ _ (drafted c.args.draft.now) c.in-Some.is c.is_main.ensures c.if-is_main.false
    (own_result_is c.args.context.now c.args.draft.now _ c.object-variable.ensures) c.havoc.ensures)
    c.emit-else-is_main.ensures
