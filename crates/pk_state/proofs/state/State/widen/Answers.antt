use Rattle.std.proofs.Common.{◌≡◌, ap, sym, subst, ◌∙◌}
use Rattle.pk_state.specs.Facts.{Stated, AreFactsIf}
use Rattle.pk_state.proofs.Held.{facts_stay}
use Rattle.pk_state.proofs.state.State.widen.Goals as goal

pub with_facts-requires : goal.with_facts-requires
with_facts-requires c =
    let l = c.self.inside.frame.now in
    let mine = ap (λ (s : Stated). s.layout) c.self.view_is in
    let same : c.next.inside.frame.now ≡ l = ap (λ (s : Stated). s.layout) c.next.view_is ∙ c.requires.layout ∙ sym mine in
    let is = c.in_ok-facts.ensures in
    subst (λ k. AreFactsIf k c.in_ok-facts.facts) mine
    (rw is (facts_stay.widenings l c.args.thresholds.now c.self.inside.facts c.next.inside.facts c.self.invariant.1 (subst (λ k. AreFactsIf k c.next.inside.facts) same c.next.invariant.1)))
