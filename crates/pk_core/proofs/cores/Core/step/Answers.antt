use Rattle.std.proofs.Common.{◌∙◌, ap, subst}
use Rattle.pk_core.proofs.Stepping.{step_offer, step_claim, step_send, step_finish, step_stable, step_again}
use Rattle.pk_plan.specs.Shape.{shape_of}
use Rattle.pk_iterate.specs.Behaviour.{decided_cell}
use Rattle.pk_core.specs.Events.{Enabled}
use Rattle.pk_core.proofs.cores.Core.step.Goals as goal

pub returns-in-Offer-clause-ok : goal.returns-in-Offer-clause-ok
returns-in-Offer-clause-ok g c = rw c.in-Offer.is (step_offer _ _ _ c.in-Offer.e c.mark.ensures)

pub returns-in-Claim-clause-ok : goal.returns-in-Claim-clause-ok
returns-in-Claim-clause-ok g c = rw c.in-Claim.is (step_claim _ _ _ c.in-Claim.e c.mark-in-Claim.ensures)

pub returns-in-Send-clause-ok : goal.returns-in-Send-clause-ok
returns-in-Send-clause-ok g c = rw c.in-Send.is (step_send _ _ _ c.in-Send.u c.in-Send.v c.tell.ensures)

pub returns-in_ok-finish-in-Finish-clause-ok : goal.returns-in_ok-finish-in-Finish-clause-ok
returns-in_ok-finish-in-Finish-clause-ok g c = rw c.in-Finish.is (step_finish _ _ _ c.in-Finish.e _ (λ s old. c.in_ok-cell-in-Finish.ensures.cell ∙ ap ((g.Y.System.meaning c.args.self.now.system).apply c.in-Finish.e) (c.in_ok-cell-in-Finish.ensures.shown s old)) c.in_ok-finish-in-Finish.ensures.ok)

pub returns-in_ok-finish-in-Stable-clause-ok : goal.returns-in_ok-finish-in-Stable-clause-ok
returns-in_ok-finish-in-Stable-clause-ok g c = rw c.in-Stable.is (step_stable _ _ _ c.in-Stable.x _ (λ s old. c.in_ok-cell-in-Stable.ensures.cell ∙ ap (λ inputs. decided_cell ((g.Y.System.meaning c.args.self.now.system).decide c.in-Stable.x inputs)) (c.in_ok-cell-in-Stable.ensures.shown s old)) c.in_ok-finish-in-Stable.ensures.ok)

pub returns-in_ok-cell-in-Again-clause-ok : goal.returns-in_ok-cell-in-Again-clause-ok
returns-in_ok-cell-in-Again-clause-ok g c =
    let can = subst (λ event. Enabled (g.Y.System.meaning c.args.self.now.system) (shape_of c.args.self.now.plan) c.requires.state event) c.in-Again.is c.requires.enabled in
    rw c.in-Again.is (step_again _ _ _ c.in-Again.x _ c.go_back.ensures.axioms can.1 (λ s old. c.in_ok-cell-in-Again.ensures.cell ∙ ap (λ inputs. decided_cell ((g.Y.System.meaning c.args.self.now.system).decide c.in-Again.x inputs)) (c.in_ok-cell-in-Again.ensures.shown s old)) c.go_back.ensures.new)
