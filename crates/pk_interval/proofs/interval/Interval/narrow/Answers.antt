use Rattle.std.proofs.Common.{ap, ◌∙◌, rules, FitsSigned}
use Rattle.std.specs.Int.{w128}
use Rattle.std.proofs.lemmas.Int.{to_z-of_z}
use Rattle.pk_interval.specs.Ranges.{Range, range_from}
use Rattle.pk_interval.specs.Widening.{narrowed_low, narrowed_high, narrowed_if}
use Rattle.pk_interval.proofs.interval.Interval.narrow.Goals as goal

pub returns-clause-value : goal.returns-clause-value
returns-clause-value c =
    let t = c.args.t in
    let h = c.args.self.now in
    let n = c.args.next.now in
    let al = ap (λ (r : Range). r.lo) c.self.view_is in
    let ah = ap (λ (r : Range). r.hi) c.self.view_is in
    let bl = ap (λ (r : Range). r.lo) c.next.view_is in
    let bh = ap (λ (r : Range). r.hi) c.next.view_is in
    let fal : FitsSigned w128 c.self.inside.lo = search rules in
    let fah : FitsSigned w128 c.self.inside.hi = search rules in
    let fbl : FitsSigned w128 c.next.inside.lo = search rules in
    let fbh : FitsSigned w128 c.next.inside.hi = search rules in
    let fl : FitsSigned w128 c.lower_bound.result = record { sfits = c.lower_bound.type_inv } in
    let fh : FitsSigned w128 c.upper_bound.result = record { sfits = c.upper_bound.type_inv } in
    let made = simp to_z-of_z at c.kept.ensures.value in
    let low = simp to_z-of_z at c.lower_bound.ensures.value in
    let high = simp to_z-of_z at c.upper_bound.ensures.value in
    made
    ∙ ap (λ l. narrowed_if (range_from l c.upper_bound.result) h) (low ∙ ap (λ l. narrowed_low t l c.next.inside.lo) al ∙ ap (narrowed_low t h.lo) bl)
    ∙ ap (λ k. narrowed_if (range_from (narrowed_low t h.lo n.lo) k) h) (high ∙ ap (λ k. narrowed_high t k c.next.inside.hi) ah ∙ ap (narrowed_high t h.hi) bh)
