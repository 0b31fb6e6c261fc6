use Rattle.std.proofs.Common.{sym, subst, ◌≡◌, ap, ◌∙◌, rules, ◌+◌, ◌*◌, to_z, of_z, FitsSigned, Some, None}
use Rattle.std.specs.Prelude.{ℤ, pos, neg_ℤ, ◌-ℤ◌}
use Rattle.std.specs.Int.{w128}
use Rattle.std.proofs.lemmas.Int.{to_z-of_z}
use Rattle.pk_octops.specs.Guards.{guard_of}
use Rattle.pk_octagons.specs.Reduced.{at_most, by_range}
use Rattle.pk_octagons.proofs.Octs.{negative_is, left_is, negative_fits}
use Rattle.pk_octagons.proofs.lowering.lower.Goals as goal

pub returns-clause-value : goal.returns-clause-value
returns-clause-value c =
    let m = c.args.m.now in
    let k = c.args.k in
    let lo = c.range.inside.lo in
    let hi = c.range.inside.hi in
    let high : FitsSigned w128 hi = search rules in
    let low : FitsSigned w128 lo = search rules in
    let inside = rw (← c.range.view_is) at c.requires.inside in
    let first : c.guard.new.m ≡ at_most m (2 * k) hi = left_is _ _ _ (c.guard.ensures.is ∙ ap (λ z. guard_of m (Some (2 * k)) None z) (to_z-of_z w128 hi high)) in
    let turned : to_z w128 (of_z w128 (pos 0 -ℤ to_z w128 (of_z w128 lo))) ≡ neg_ℤ lo = ap (λ z. to_z w128 (of_z w128 (pos 0 -ℤ z))) (to_z-of_z w128 lo low) ∙ negative_fits inside.0 lo inside.1.from in
    let second : c.guard-2.new.m ≡ at_most c.guard.new.m (2 * k + 1) (neg_ℤ lo) = left_is _ _ _ (c.guard-2.ensures.is ∙ ap (λ z. guard_of c.guard.new.m (Some (2 * k + 1)) None z) turned) in
    second ∙ ap (λ o. at_most o (2 * k + 1) (neg_ℤ lo)) first ∙ ap (λ r. by_range m k r) c.range.view_is

pub overflow_sub-range-inside : goal.overflow_sub-range-inside
overflow_sub-range-inside c =
    let lo = c.range.inside.lo in
    let low : FitsSigned w128 lo = search rules in
    let inside = rw (← c.range.view_is) at c.requires.inside in
    subst (λ (z : ℤ). FitsSigned w128 (pos 0 -ℤ z)) (sym (to_z-of_z w128 lo low)) (negative_is inside.0 lo inside.1.from)
