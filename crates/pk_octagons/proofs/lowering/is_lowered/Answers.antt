use Rattle.std.proofs.Common.{sym, ◌≡◌, ap, ◌∙◌, subst, rules, ◌+◌, ◌*◌, to_z, of_z, FitsSigned, Some}
use Rattle.std.specs.Prelude.{ℤ, pos, neg_ℤ, ◌+ℤ◌, ◌-ℤ◌}
use Rattle.std.specs.Int.{w128}
use Rattle.std.proofs.lemmas.Int.{to_z-of_z}
use Rattle.pk_interval.specs.Ranges.{Range}
use Rattle.pk_octmat.specs.Bounds.{lesser, capped}
use Rattle.pk_octmat.specs.Octagon.{entry}
use Rattle.pk_octagons.specs.Reduced.{by_range}
use Rattle.pk_octagons.proofs.Octs.{negative_is, negative_fits, by_range_same}
use Rattle.pk_octagons.proofs.lowering.is_lowered.Goals as goal

pub returns-then-is_within : goal.returns-then-is_within
returns-then-is_within c = λ yes.
    let m = c.args.m.now in
    let k = c.args.k in
    let lo = c.range.inside.lo in
    let hi = c.range.inside.hi in
    let high : FitsSigned w128 hi = search rules in
    let low : FitsSigned w128 lo = search rules in
    let r : Range = record { lo = lo; hi = hi } in
    let inside = rw (← c.range.view_is) at c.requires.inside in
    let turned : to_z w128 (of_z w128 (pos 0 -ℤ to_z w128 (of_z w128 lo))) ≡ neg_ℤ lo = ap (λ z. to_z w128 (of_z w128 (pos 0 -ℤ z))) (to_z-of_z w128 lo low) ∙ negative_fits inside.0 lo inside.1.from in
    subst (λ r. by_range m k r ≡ m) c.range.view_is
    (by_range_same m k r c.is_octagon.ensures
    (subst (λ (z : ℤ). lesser (entry m (2 * k + 1) (2 * k)) (capped (Some (z +ℤ z))) ≡ entry m (2 * k + 1) (2 * k)) (to_z-of_z w128 hi high) (c.is_within.ensures c.if-is_within.true))
    (subst (λ (z : ℤ). lesser (entry m (2 * k) (2 * k + 1)) (capped (Some (z +ℤ z))) ≡ entry m (2 * k) (2 * k + 1)) turned (c.is_within-then-is_within.ensures yes)))

pub overflow_sub-range-inside : goal.overflow_sub-range-inside
overflow_sub-range-inside c =
    let lo = c.range.inside.lo in
    let low : FitsSigned w128 lo = search rules in
    let inside = rw (← c.range.view_is) at c.requires.inside in
    subst (λ (z : ℤ). FitsSigned w128 (pos 0 -ℤ z)) (sym (to_z-of_z w128 lo low)) (negative_is inside.0 lo inside.1.from)
