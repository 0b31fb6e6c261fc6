use Rattle.std.proofs.Common.{◌≡◌, ap, sym, subst, ◌∙◌}
use Rattle.pk_state.specs.Facts.{Stated, AreFactsIf}
use Rattle.pk_state.proofs.Held.{facts_stay}
use Rattle.pk_state.proofs.state.State.join.Goals as goal

pub with_facts-requires : goal.with_facts-requires
with_facts-requires c =
    let l = c.self.inside.frame.now in
    let mine = ap (λ (s : Stated). s.layout) c.self.view_is in
    let same : c.other.inside.frame.now ≡ l = ap (λ (s : Stated). s.layout) c.other.view_is ∙ c.requires ∙ sym mine in
    subst (λ k. AreFactsIf k c.in_ok-facts.facts) mine
    (rw c.in_ok-facts.ensures (facts_stay.joins l c.self.inside.facts c.other.inside.facts c.self.invariant.1 (subst (λ k. AreFactsIf k c.other.inside.facts) same c.other.invariant.1)))
