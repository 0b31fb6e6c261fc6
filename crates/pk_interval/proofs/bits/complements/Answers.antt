use Rattle.std.proofs.Common.{ap, rules, ◌≡◌, FitsSigned, sym, subst}
use Rattle.std.specs.Int.{w128}
use Rattle.pk_ctypes.specs.Types.{InType}
use Rattle.pk_interval.specs.Ranges.{Range}
use Rattle.pk_interval.specs.Operators.{complement_of}
use Rattle.pk_interval.proofs.Numbers.{back_to, same_range}
use Rattle.pk_interval.proofs.bits.complements.Goals as goal

pub returns : goal.returns
returns c =
    let a_lo_fits : FitsSigned w128 c.a.inside.lo = search rules in
    let a_hi_fits : FitsSigned w128 c.a.inside.hi = search rules in
    let a_lo = back_to c.a.inside.lo c.args.a.now.lo a_lo_fits (ap (λ (r : Range). r.lo) c.a.view_is) in
    let a_hi = back_to c.a.inside.hi c.args.a.now.hi a_hi_fits (ap (λ (r : Range). r.hi) c.a.view_is) in
    let least : c.other_bits.result ≡ complement_of c.args.t c.args.a.now.hi = cc in
    let greatest : c.other_bits-2.result ≡ complement_of c.args.t c.args.a.now.lo = cc in
    same_range _ _ _ _ (back_to _ _ (record { sfits = c.other_bits.type_inv }) least) (back_to _ _ (record { sfits = c.other_bits-2.type_inv }) greatest)

pub other_bits-requires : goal.other_bits-requires
other_bits-requires c =
    let fits : FitsSigned w128 c.a.inside.hi = search rules in
    subst (InType c.args.t) (sym (back_to c.a.inside.hi c.args.a.now.hi fits (ap (λ (r : Range). r.hi) c.a.view_is))) c.requires.to

pub other_bits-requires-2 : goal.other_bits-requires-2
other_bits-requires-2 c =
    let fits : FitsSigned w128 c.a.inside.lo = search rules in
    subst (InType c.args.t) (sym (back_to c.a.inside.lo c.args.a.now.lo fits (ap (λ (r : Range). r.lo) c.a.view_is))) c.requires.from
