use Rattle.std.proofs.Common.{arith, ap, ◌∙◌, ◌≡◌, FitsSigned, rules, ◌+ℤ◌, ◌<ℤ◌}
use Rattle.std.specs.Int.{w128}
use Rattle.std.proofs.lemmas.Int.{ints, by_lt_z}
use Rattle.pk_ctypes.specs.Types.{high_of}
use Rattle.pk_ctypes.proofs.Wrapped.{sized, wrapped_in}
use Rattle.pk_interval.specs.Ranges.{Range}
use Rattle.pk_interval.proofs.Moves.{moved_is, whole_is}
use Rattle.pk_interval.proofs.fitting.move_by.Goals as goal

pub overflow_add-lo : goal.overflow_add-lo
overflow_add-lo c =
    let al = ap (λ (r : Range). r.lo) c.a.view_is in
    let ah = ap (λ (r : Range). r.hi) c.a.view_is in
    let fal : FitsSigned w128 c.a.inside.lo = search rules in
    let fah : FitsSigned w128 c.a.inside.hi = search rules in
    let inside = sized c.args.t _ (wrapped_in c.args.t c.args.a.now.lo) in
    omega (arith, ints)

pub invariant_of-result : goal.invariant_of-result
invariant_of-result c =
    let al = ap (λ (r : Range). r.lo) c.a.view_is in
    let ah = ap (λ (r : Range). r.hi) c.a.view_is in
    let fal : FitsSigned w128 c.a.inside.lo = search rules in
    let fah : FitsSigned w128 c.a.inside.hi = search rules in
    let inside = sized c.args.t _ (wrapped_in c.args.t c.args.a.now.lo) in
    let some = c.in-Some.ensures in
    let fits = some.0 in
    let hi : c.in-Some.hi ≡ c.args.a.now.hi +ℤ c.args.added = omega (arith, ints, some.1) in
    omega (arith, ints)

pub returns-then-hi-high : goal.returns-then-hi-high
returns-then-hi-high c =
    let al = ap (λ (r : Range). r.lo) c.a.view_is in
    let ah = ap (λ (r : Range). r.hi) c.a.view_is in
    let fal : FitsSigned w128 c.a.inside.lo = search rules in
    let fah : FitsSigned w128 c.a.inside.hi = search rules in
    let inside = sized c.args.t _ (wrapped_in c.args.t c.args.a.now.lo) in
    let some = c.in-Some.ensures in
    let fits = some.0 in
    let hi : c.in-Some.hi ≡ c.args.a.now.hi +ℤ c.args.added = omega (arith, ints, some.1) in
    moved_is c.args.t c.args.a.now c.args.added _ _ _ (omega (arith, ints, c.range-high.ensures.high)) (omega (arith, ints)) (omega (arith, ints)) (omega (arith, ints))

pub returns-else-hi-high : goal.returns-else-hi-high
returns-else-hi-high c =
    let al = ap (λ (r : Range). r.lo) c.a.view_is in
    let ah = ap (λ (r : Range). r.hi) c.a.view_is in
    let fal : FitsSigned w128 c.a.inside.lo = search rules in
    let fah : FitsSigned w128 c.a.inside.hi = search rules in
    let inside = sized c.args.t _ (wrapped_in c.args.t c.args.a.now.lo) in
    let some = c.in-Some.ensures in
    let fits = some.0 in
    let hi : c.in-Some.hi ≡ c.args.a.now.hi +ℤ c.args.added = omega (arith, ints, some.1) in
    ap (λ r. (r, _)) c.whole.ensures ∙ whole_is c.args.t c.args.a.now c.args.added (omega (arith, ints, c.range-high.ensures.high))

pub returns-in-None : goal.returns-in-None
returns-in-None c =
    let al = ap (λ (r : Range). r.lo) c.a.view_is in
    let ah = ap (λ (r : Range). r.hi) c.a.view_is in
    let fal : FitsSigned w128 c.a.inside.lo = search rules in
    let fah : FitsSigned w128 c.a.inside.hi = search rules in
    let inside = sized c.args.t _ (wrapped_in c.args.t c.args.a.now.lo) in
    let past : high_of c.args.t <ℤ (c.args.a.now.hi +ℤ c.args.added) = by_lt_z (high_of c.args.t) (c.args.a.now.hi +ℤ c.args.added) (λ l. l) (λ l. absurd (c.in-None.ensures (omega (arith, ints)))) in
    ap (λ r. (r, _)) c.whole-in-None.ensures ∙ whole_is c.args.t c.args.a.now c.args.added past
