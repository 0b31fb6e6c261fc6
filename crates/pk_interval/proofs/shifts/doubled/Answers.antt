use Rattle.std.specs.Prelude.{pos, ◌≤ℤ◌, ◌<ℤ◌}
use Rattle.std.proofs.Common.{arith, ap, Some, rules, to_z, of_z, ◌≡◌, FitsSigned, sym, subst}
use Rattle.std.specs.Int.{w128}
use Rattle.std.proofs.lemmas.Int.{ints}
use Rattle.pk_ctypes.specs.Types.{InType}
use Rattle.pk_interval.specs.Ranges.{Range}
use Rattle.pk_interval.specs.Operators.{shifted_left}
use Rattle.pk_interval.proofs.Numbers.{back_to, most_below, most_most, left_rises, left_value, same_range}
use Rattle.pk_interval.proofs.shifts.doubled.Goals as goal

first : (c : goal.After-left-2) → to_z w128 (of_z w128 c.left.result) ≡ shifted_left c.args.a.now.lo c.args.by.now.lo
first c =
    let number : FitsSigned w128 c.a.inside.lo = search rules in
    let count : FitsSigned w128 c.by.inside.lo = search rules in
    left_value _ _ _ _ _ (record { sfits = c.left.type_inv }) number count c.left.ensures (ap (λ (r : Range). r.lo) c.a.view_is) (ap (λ (r : Range). r.lo) c.by.view_is)

last : (c : goal.After-left-2) → to_z w128 (of_z w128 c.left-2.result) ≡ shifted_left c.args.a.now.hi c.args.by.now.hi
last c =
    let number : FitsSigned w128 c.a.inside.hi = search rules in
    let count : FitsSigned w128 c.by.inside.hi = search rules in
    left_value _ _ _ _ _ (record { sfits = c.left-2.type_inv }) number count c.left-2.ensures (ap (λ (r : Range). r.hi) c.a.view_is) (ap (λ (r : Range). r.hi) c.by.view_is)

pub invariant_of-result : goal.invariant_of-result
invariant_of-result c =
    let low = ap (λ (r : Range). r.lo) c.a.view_is in
    let high = ap (λ (r : Range). r.hi) c.a.view_is in
    rw (first c, last c) (left_rises c.args.a.now.lo c.args.a.now.hi c.args.by.now.lo c.args.by.now.hi (omega (arith, ints)) (omega (arith, ints)) (omega (arith, ints)) (omega (arith, ints)))

pub returns : goal.returns
returns c = ap Some (same_range _ _ _ _ (first c) (last c))

pub left-requires-clause-number : goal.left-requires-clause-number
left-requires-clause-number c =
    let fits : FitsSigned w128 c.a.inside.lo = search rules in
    subst (InType c.args.t) (sym (back_to c.a.inside.lo c.args.a.now.lo fits (ap (λ (r : Range). r.lo) c.a.view_is))) c.requires.inside.from

pub left-requires-clause-from : goal.left-requires-clause-from
left-requires-clause-from c =
    let fits : FitsSigned w128 c.a.inside.lo = search rules in
    subst (λ z. pos 0 ≤ℤ z) (sym (back_to c.a.inside.lo c.args.a.now.lo fits (ap (λ (r : Range). r.lo) c.a.view_is))) c.requires.from

pub left-requires-clause-least : goal.left-requires-clause-least
left-requires-clause-least c =
    let fits : FitsSigned w128 c.by.inside.lo = search rules in
    subst (λ z. pos 0 ≤ℤ z) (sym (back_to c.by.inside.lo c.args.by.now.lo fits (ap (λ (r : Range). r.lo) c.by.view_is))) c.requires.few.from

pub left-requires-clause-most : goal.left-requires-clause-most
left-requires-clause-most c =
    let fits : FitsSigned w128 c.by.inside.lo = search rules in
    subst (λ z. z <ℤ pos 64) (sym (back_to c.by.inside.lo c.args.by.now.lo fits (ap (λ (r : Range). r.lo) c.by.view_is))) (most_below _ _ _ c.requires.few.some c.requires.few.to)

pub left-requires-2-clause-number : goal.left-requires-2-clause-number
left-requires-2-clause-number c =
    let fits : FitsSigned w128 c.a.inside.hi = search rules in
    subst (InType c.args.t) (sym (back_to c.a.inside.hi c.args.a.now.hi fits (ap (λ (r : Range). r.hi) c.a.view_is))) c.requires.inside.to

pub left-requires-2-clause-from : goal.left-requires-2-clause-from
left-requires-2-clause-from c =
    let fits : FitsSigned w128 c.a.inside.hi = search rules in
    subst (λ z. pos 0 ≤ℤ z) (sym (back_to c.a.inside.hi c.args.a.now.hi fits (ap (λ (r : Range). r.hi) c.a.view_is))) (most_most _ _ _ c.requires.from (subst (λ (r : Range). r.lo ≤ℤ r.hi) c.a.view_is c.a.invariant))

pub left-requires-2-clause-least : goal.left-requires-2-clause-least
left-requires-2-clause-least c =
    let fits : FitsSigned w128 c.by.inside.hi = search rules in
    subst (λ z. pos 0 ≤ℤ z) (sym (back_to c.by.inside.hi c.args.by.now.hi fits (ap (λ (r : Range). r.hi) c.by.view_is))) (most_most _ _ _ c.requires.few.from c.requires.few.some)

pub left-requires-2-clause-most : goal.left-requires-2-clause-most
left-requires-2-clause-most c =
    let fits : FitsSigned w128 c.by.inside.hi = search rules in
    subst (λ z. z <ℤ pos 64) (sym (back_to c.by.inside.hi c.args.by.now.hi fits (ap (λ (r : Range). r.hi) c.by.view_is))) c.requires.few.to
