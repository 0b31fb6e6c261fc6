use Rattle.std.specs.Prelude.{pos, ◌≤ℤ◌, ◌<ℤ◌}
use Rattle.std.proofs.Common.{ap, Some, rules, ◌∙◌, ◌≡◌, FitsSigned, sym, subst}
use Rattle.std.specs.Int.{w128}
use Rattle.pk_ctypes.specs.Types.{InType}
use Rattle.pk_interval.specs.Ranges.{Range}
use Rattle.pk_interval.specs.Operators.{shifted_right}
use Rattle.pk_interval.proofs.Numbers.{back_to, most_below, most_most, same_hull}
use Rattle.pk_interval.proofs.shifts.halved.Goals as goal

pub returns : goal.returns
returns c =
    let fal : FitsSigned w128 c.a.inside.lo = search rules in
    let fah : FitsSigned w128 c.a.inside.hi = search rules in
    let fbl : FitsSigned w128 c.by.inside.lo = search rules in
    let fbh : FitsSigned w128 c.by.inside.hi = search rules in
    let al = back_to c.a.inside.lo c.args.a.now.lo fal (ap (λ (r : Range). r.lo) c.a.view_is) in
    let ah = back_to c.a.inside.hi c.args.a.now.hi fah (ap (λ (r : Range). r.hi) c.a.view_is) in
    let bl = back_to c.by.inside.lo c.args.by.now.lo fbl (ap (λ (r : Range). r.lo) c.by.view_is) in
    let bh = back_to c.by.inside.hi c.args.by.now.hi fbh (ap (λ (r : Range). r.hi) c.by.view_is) in
    let k1 : c.right.result ≡ shifted_right c.args.a.now.lo c.args.by.now.lo = cc in
    let k2 : c.right-2.result ≡ shifted_right c.args.a.now.lo c.args.by.now.hi = cc in
    let k3 : c.right-3.result ≡ shifted_right c.args.a.now.hi c.args.by.now.lo = cc in
    let k4 : c.right-4.result ≡ shifted_right c.args.a.now.hi c.args.by.now.hi = cc in
    ap Some (c.hull.ensures ∙ same_hull _ _ _ _ _ _ _ _ (back_to _ _ (record { sfits = c.right.type_inv }) k1) (back_to _ _ (record { sfits = c.right-2.type_inv }) k2) (back_to _ _ (record { sfits = c.right-3.type_inv }) k3) (back_to _ _ (record { sfits = c.right-4.type_inv }) k4))

pub right-requires-clause-number : goal.right-requires-clause-number
right-requires-clause-number c =
    let fits : FitsSigned w128 c.a.inside.lo = search rules in
    subst (InType c.args.t) (sym (back_to c.a.inside.lo c.args.a.now.lo fits (ap (λ (r : Range). r.lo) c.a.view_is))) c.requires.inside.from

pub right-requires-clause-least : goal.right-requires-clause-least
right-requires-clause-least c =
    let fits : FitsSigned w128 c.by.inside.lo = search rules in
    subst (λ z. pos 0 ≤ℤ z) (sym (back_to c.by.inside.lo c.args.by.now.lo fits (ap (λ (r : Range). r.lo) c.by.view_is))) c.requires.few.from

pub right-requires-clause-most : goal.right-requires-clause-most
right-requires-clause-most c =
    let fits : FitsSigned w128 c.by.inside.lo = search rules in
    subst (λ z. z <ℤ pos 64) (sym (back_to c.by.inside.lo c.args.by.now.lo fits (ap (λ (r : Range). r.lo) c.by.view_is))) (most_below _ _ _ c.requires.few.some c.requires.few.to)

pub right-requires-2-clause-number : goal.right-requires-2-clause-number
right-requires-2-clause-number c =
    let fits : FitsSigned w128 c.a.inside.lo = search rules in
    subst (InType c.args.t) (sym (back_to c.a.inside.lo c.args.a.now.lo fits (ap (λ (r : Range). r.lo) c.a.view_is))) c.requires.inside.from

pub right-requires-2-clause-least : goal.right-requires-2-clause-least
right-requires-2-clause-least c =
    let fits : FitsSigned w128 c.by.inside.hi = search rules in
    subst (λ z. pos 0 ≤ℤ z) (sym (back_to c.by.inside.hi c.args.by.now.hi fits (ap (λ (r : Range). r.hi) c.by.view_is))) (most_most _ _ _ c.requires.few.from c.requires.few.some)

pub right-requires-2-clause-most : goal.right-requires-2-clause-most
right-requires-2-clause-most c =
    let fits : FitsSigned w128 c.by.inside.hi = search rules in
    subst (λ z. z <ℤ pos 64) (sym (back_to c.by.inside.hi c.args.by.now.hi fits (ap (λ (r : Range). r.hi) c.by.view_is))) c.requires.few.to

pub right-requires-3-clause-number : goal.right-requires-3-clause-number
right-requires-3-clause-number c =
    let fits : FitsSigned w128 c.a.inside.hi = search rules in
    subst (InType c.args.t) (sym (back_to c.a.inside.hi c.args.a.now.hi fits (ap (λ (r : Range). r.hi) c.a.view_is))) c.requires.inside.to

pub right-requires-3-clause-least : goal.right-requires-3-clause-least
right-requires-3-clause-least c =
    let fits : FitsSigned w128 c.by.inside.lo = search rules in
    subst (λ z. pos 0 ≤ℤ z) (sym (back_to c.by.inside.lo c.args.by.now.lo fits (ap (λ (r : Range). r.lo) c.by.view_is))) c.requires.few.from

pub right-requires-3-clause-most : goal.right-requires-3-clause-most
right-requires-3-clause-most c =
    let fits : FitsSigned w128 c.by.inside.lo = search rules in
    subst (λ z. z <ℤ pos 64) (sym (back_to c.by.inside.lo c.args.by.now.lo fits (ap (λ (r : Range). r.lo) c.by.view_is))) (most_below _ _ _ c.requires.few.some c.requires.few.to)

pub right-requires-4-clause-number : goal.right-requires-4-clause-number
right-requires-4-clause-number c =
    let fits : FitsSigned w128 c.a.inside.hi = search rules in
    subst (InType c.args.t) (sym (back_to c.a.inside.hi c.args.a.now.hi fits (ap (λ (r : Range). r.hi) c.a.view_is))) c.requires.inside.to

pub right-requires-4-clause-least : goal.right-requires-4-clause-least
right-requires-4-clause-least c =
    let fits : FitsSigned w128 c.by.inside.hi = search rules in
    subst (λ z. pos 0 ≤ℤ z) (sym (back_to c.by.inside.hi c.args.by.now.hi fits (ap (λ (r : Range). r.hi) c.by.view_is))) (most_most _ _ _ c.requires.few.from c.requires.few.some)

pub right-requires-4-clause-most : goal.right-requires-4-clause-most
right-requires-4-clause-most c =
    let fits : FitsSigned w128 c.by.inside.hi = search rules in
    subst (λ z. z <ℤ pos 64) (sym (back_to c.by.inside.hi c.args.by.now.hi fits (ap (λ (r : Range). r.hi) c.by.view_is))) c.requires.few.to
