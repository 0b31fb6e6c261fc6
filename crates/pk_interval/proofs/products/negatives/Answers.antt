use Rattle.std.proofs.Common.{ap, rules, ◌≡◌, FitsSigned}
use Rattle.std.specs.Int.{w128}
use Rattle.pk_interval.specs.Ranges.{Range}
use Rattle.std.specs.Prelude.{neg_ℤ}
use Rattle.pk_interval.proofs.Numbers.{back_to, same_range}
use Rattle.pk_interval.proofs.products.negatives.Goals as goal

pub returns : goal.returns
returns c =
    let a_lo_fits : FitsSigned w128 c.a.inside.lo = search rules in
    let a_hi_fits : FitsSigned w128 c.a.inside.hi = search rules in
    let a_lo = back_to c.a.inside.lo c.args.a.now.lo a_lo_fits (ap (λ (r : Range). r.lo) c.a.view_is) in
    let a_hi = back_to c.a.inside.hi c.args.a.now.hi a_hi_fits (ap (λ (r : Range). r.hi) c.a.view_is) in
    let least : c.negative.result ≡ neg_ℤ c.args.a.now.hi = cc in
    let greatest : c.negative-2.result ≡ neg_ℤ c.args.a.now.lo = cc in
    same_range _ _ _ _ (back_to _ _ (record { sfits = c.negative.type_inv }) least) (back_to _ _ (record { sfits = c.negative-2.type_inv }) greatest)
