use Rattle.std.proofs.Common.{◌≡◌, ap, sym, subst}
use Rattle.pk_state.specs.Facts.{Stated}
use Rattle.pk_state.specs.Reduced.{reduced}
use Rattle.pk_state.proofs.Held.{facts_stay}
use Rattle.pk_state.proofs.Settled.{settled_reduced}
use Rattle.pk_state.proofs.state.State.into_reduced.Goals as goal

pub invariant_of-result : goal.invariant_of-result
invariant_of-result c =
    let l = c.self.inside.frame.now in
    let is = c.in_ok-facts.ensures in (
      c.self.invariant.0,
      rw is.value (facts_stay.reductions l c.self.inside.facts c.self.invariant.0 c.self.invariant.1),
      is.settled,
    )

pub returns-then-self : goal.returns-then-self
returns-then-self c =
    let s = c.self.inside in
    let l = s.frame.now in
    let own : reduced l s.facts ≡ s.facts = settled_reduced l s.facts c.self.invariant.1 (c.self.invariant.2 c.if-self.true) in
    subst (λ (t : Stated). t ≡ record { layout = t.layout; facts = reduced t.layout t.facts }) c.self.view_is (ap (λ o. record { layout = l; facts = o }) (sym own))
