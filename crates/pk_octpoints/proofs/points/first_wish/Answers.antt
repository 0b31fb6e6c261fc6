use Rattle.std.specs.Prelude.{◌≡◌, ◌^◌, ℤ, pos, neg_ℤ, ◌-ℤ◌, ◌≤ℤ◌, Some}
use Rattle.std.specs.Int.{w128}
use Rattle.std.proofs.Common.{◌∙◌, ap, refl, subst, sym, arith}
use Rattle.std.proofs.lemmas.Int.{ints, to_z-of_z}
use Rattle.std.specs.Int.RustNames.{FitsSigned}
use Rattle.pk_octmat.specs.Bounds.{IsNear}
use Rattle.pk_octpoints.proofs.Reached.{back_near, wish_is, wish_room}
use Rattle.pk_octpoints.proofs.points.first_wish.Goals as goal

pub plus-requires-clause-right : goal.plus-requires-clause-right
plus-requires-clause-right c =
    let less : c.exactly-less.result ≡ Some (neg_ℤ c.args.c) = c.exactly-less.ensures ∙ ap (λ (z : ℤ). Some z) (omega (arith, ints)) in
    subst (λ o. IsNear (2 ^ 100) o) (sym less) (back_near c.args.c (c.requires.low, c.requires.high))

pub plus-requires-2-clause-right : goal.plus-requires-2-clause-right
plus-requires-2-clause-right c =
    let less : c.exactly-less.result ≡ Some (neg_ℤ c.args.c) = c.exactly-less.ensures ∙ ap (λ (z : ℤ). Some z) (omega (arith, ints)) in
    subst (λ o. IsNear (2 ^ 100) o) (sym less) (back_near c.args.c (c.requires.low, c.requires.high))

pub returns-clause-value : goal.returns-clause-value
returns-clause-value c =
    let less : c.exactly-less.result ≡ Some (neg_ℤ c.args.c) = c.exactly-less.ensures ∙ ap (λ (z : ℤ). Some z) (omega (arith, ints)) in
    let one : FitsSigned w128 c.lowered.result = record { sfits = c.lowered.type_inv } in
    let two : FitsSigned w128 c.lowered-2.result = record { sfits = c.lowered-2.type_inv } in
    to_z-of_z w128 c.lowered-2.result two
    ∙ wish_is c.args.m.now c.args.i c.args.j c.opposite.result c.opposite-2.result c.args.c _ c.lowered.result _ c.lowered-2.result c.bound.result c.halved-high.result c.bound-over.result c.exactly-less.result c.plus.result c.plus-2.result c.halved.result
    c.opposite.ensures c.bound.ensures.value c.halved-high.ensures c.opposite-2.ensures c.bound-over.ensures.value less c.plus.ensures refl c.lowered.ensures c.plus-2.ensures c.halved.ensures (to_z-of_z w128 c.lowered.result one) c.lowered-2.ensures

pub returns-clause-low : goal.returns-clause-low
returns-clause-low c = subst (λ z. (pos 0 -ℤ pos (2 ^ 68)) ≤ℤ z) (sym (returns-clause-value c)) (wish_room c.args.m.now c.args.i c.args.j c.args.c c.is_octagon.ensures (c.requires.low, c.requires.high)).0

pub returns-clause-high : goal.returns-clause-high
returns-clause-high c = subst (λ z. z ≤ℤ pos (2 ^ 68)) (sym (returns-clause-value c)) (wish_room c.args.m.now c.args.i c.args.j c.args.c c.is_octagon.ensures (c.requires.low, c.requires.high)).1
