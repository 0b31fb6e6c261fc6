use Rattle.std.proofs.Common.{ap, rules, ◌≡◌, FitsSigned, sym, subst}
use Rattle.std.specs.Int.{w128}
use Rattle.pk_ctypes.specs.Types.{InType}
use Rattle.pk_interval.specs.Ranges.{Range}
use Rattle.std.specs.Prelude.{◌-ℤ◌}
use Rattle.pk_interval.proofs.Numbers.{back_to, same_range}
use Rattle.pk_interval.proofs.products.differences.Goals as goal

pub returns : goal.returns
returns c =
    let a_lo_fits : FitsSigned w128 c.a.inside.lo = search rules in
    let a_hi_fits : FitsSigned w128 c.a.inside.hi = search rules in
    let b_lo_fits : FitsSigned w128 c.b.inside.lo = search rules in
    let b_hi_fits : FitsSigned w128 c.b.inside.hi = search rules in
    let a_lo = back_to c.a.inside.lo c.args.a.now.lo a_lo_fits (ap (λ (r : Range). r.lo) c.a.view_is) in
    let a_hi = back_to c.a.inside.hi c.args.a.now.hi a_hi_fits (ap (λ (r : Range). r.hi) c.a.view_is) in
    let b_lo = back_to c.b.inside.lo c.args.b.now.lo b_lo_fits (ap (λ (r : Range). r.lo) c.b.view_is) in
    let b_hi = back_to c.b.inside.hi c.args.b.now.hi b_hi_fits (ap (λ (r : Range). r.hi) c.b.view_is) in
    let least : c.minus.result ≡ c.args.a.now.lo -ℤ c.args.b.now.hi = cc in
    let greatest : c.minus-2.result ≡ c.args.a.now.hi -ℤ c.args.b.now.lo = cc in
    same_range _ _ _ _ (back_to _ _ (record { sfits = c.minus.type_inv }) least) (back_to _ _ (record { sfits = c.minus-2.type_inv }) greatest)

pub minus-requires-clause-left : goal.minus-requires-clause-left
minus-requires-clause-left c =
    let fits : FitsSigned w128 c.a.inside.lo = search rules in
    subst (InType c.args.t) (sym (back_to c.a.inside.lo c.args.a.now.lo fits (ap (λ (r : Range). r.lo) c.a.view_is))) c.requires.left.from

pub minus-requires-clause-right : goal.minus-requires-clause-right
minus-requires-clause-right c =
    let fits : FitsSigned w128 c.b.inside.hi = search rules in
    subst (InType c.args.t) (sym (back_to c.b.inside.hi c.args.b.now.hi fits (ap (λ (r : Range). r.hi) c.b.view_is))) c.requires.right.to

pub minus-requires-2-clause-left : goal.minus-requires-2-clause-left
minus-requires-2-clause-left c =
    let fits : FitsSigned w128 c.a.inside.hi = search rules in
    subst (InType c.args.t) (sym (back_to c.a.inside.hi c.args.a.now.hi fits (ap (λ (r : Range). r.hi) c.a.view_is))) c.requires.left.to

pub minus-requires-2-clause-right : goal.minus-requires-2-clause-right
minus-requires-2-clause-right c =
    let fits : FitsSigned w128 c.b.inside.lo = search rules in
    subst (InType c.args.t) (sym (back_to c.b.inside.lo c.args.b.now.lo fits (ap (λ (r : Range). r.lo) c.b.view_is))) c.requires.right.from
