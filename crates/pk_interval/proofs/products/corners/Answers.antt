use Rattle.std.proofs.Common.{ap, rules, ◌∙◌, ◌≡◌, FitsSigned, sym, subst}
use Rattle.std.specs.Int.{w128}
use Rattle.pk_ctypes.specs.Types.{InType}
use Rattle.pk_interval.specs.Ranges.{Range}
use Rattle.std.specs.Prelude.{int_div}
use Rattle.pk_interval.proofs.Numbers.{back_to, same_hull}
use Rattle.pk_interval.proofs.products.corners.Goals as goal

pub returns : goal.returns
returns c =
    let fal : FitsSigned w128 c.a.inside.lo = search rules in
    let fah : FitsSigned w128 c.a.inside.hi = search rules in
    let fdl : FitsSigned w128 c.d.inside.lo = search rules in
    let fdh : FitsSigned w128 c.d.inside.hi = search rules in
    let al = back_to c.a.inside.lo c.args.a.now.lo fal (ap (λ (r : Range). r.lo) c.a.view_is) in
    let ah = back_to c.a.inside.hi c.args.a.now.hi fah (ap (λ (r : Range). r.hi) c.a.view_is) in
    let dl = back_to c.d.inside.lo c.args.d.now.lo fdl (ap (λ (r : Range). r.lo) c.d.view_is) in
    let dh = back_to c.d.inside.hi c.args.d.now.hi fdh (ap (λ (r : Range). r.hi) c.d.view_is) in
    let k1 : c.divided.result ≡ int_div c.args.a.now.lo c.args.d.now.lo = cc in
    let k2 : c.divided-2.result ≡ int_div c.args.a.now.lo c.args.d.now.hi = cc in
    let k3 : c.divided-3.result ≡ int_div c.args.a.now.hi c.args.d.now.lo = cc in
    let k4 : c.divided-4.result ≡ int_div c.args.a.now.hi c.args.d.now.hi = cc in
    c.hull.ensures ∙ same_hull _ _ _ _ _ _ _ _ (back_to _ _ (record { sfits = c.divided.type_inv }) k1) (back_to _ _ (record { sfits = c.divided-2.type_inv }) k2) (back_to _ _ (record { sfits = c.divided-3.type_inv }) k3) (back_to _ _ (record { sfits = c.divided-4.type_inv }) k4)

pub divided-requires-clause-left : goal.divided-requires-clause-left
divided-requires-clause-left c =
    let fits : FitsSigned w128 c.a.inside.lo = search rules in
    subst (InType c.args.t) (sym (back_to c.a.inside.lo c.args.a.now.lo fits (ap (λ (r : Range). r.lo) c.a.view_is))) c.requires.left.from

pub divided-requires-2-clause-left : goal.divided-requires-2-clause-left
divided-requires-2-clause-left c =
    let fits : FitsSigned w128 c.a.inside.lo = search rules in
    subst (InType c.args.t) (sym (back_to c.a.inside.lo c.args.a.now.lo fits (ap (λ (r : Range). r.lo) c.a.view_is))) c.requires.left.from

pub divided-requires-3-clause-left : goal.divided-requires-3-clause-left
divided-requires-3-clause-left c =
    let fits : FitsSigned w128 c.a.inside.hi = search rules in
    subst (InType c.args.t) (sym (back_to c.a.inside.hi c.args.a.now.hi fits (ap (λ (r : Range). r.hi) c.a.view_is))) c.requires.left.to

pub divided-requires-4-clause-left : goal.divided-requires-4-clause-left
divided-requires-4-clause-left c =
    let fits : FitsSigned w128 c.a.inside.hi = search rules in
    subst (InType c.args.t) (sym (back_to c.a.inside.hi c.args.a.now.hi fits (ap (λ (r : Range). r.hi) c.a.view_is))) c.requires.left.to
