use Rattle.std.proofs.Common.{◌≡◌, ap, ◌∙◌, refl, true, rules}
use Rattle.pk_plan.specs.Shape.{exits}
use Rattle.pk_iterate.specs.Behaviour.{is_again}
use Rattle.pk_core.proofs.Asked.{no_exit, decision_tells}
use Rattle.pk_core.proofs.cores.Core.decides.Goals as goal

pub returns-then-not-holds : goal.returns-then-not-holds
returns-then-not-holds g c = λ s shown. no_exit (λ held. absurd (let yes = (c.holds.ensures.held s shown).1 held in let none = c.if-not-holds.true in cc))

pub returns : goal.returns
returns g c = λ s shown.
    let exit : exits c.args.self.now.plan c.args.x ≡ true = search rules in
    decision_tells _ c.is_again.result c.args.again ((c.holds.ensures.held s shown).0 c.if-not-holds.false) exit refl
    (c.is_again.ensures ∙ ap is_again c.in_ok-decision.ensures.decision ∙ ap (λ inputs. is_again ((g.Y.System.meaning c.args.self.now.system).decide c.args.x inputs)) (c.in_ok-decision.ensures.shown s shown))
