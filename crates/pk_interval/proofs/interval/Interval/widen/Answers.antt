use Rattle.std.proofs.Common.{ap, rules, ◌≡◌, FitsSigned}
use Rattle.std.specs.Int.{w128}
use Rattle.pk_interval.specs.Ranges.{Range}
use Rattle.pk_interval.specs.Widening.{lowered, raised}
use Rattle.pk_interval.proofs.Numbers.{back_to, same_range}
use Rattle.pk_interval.proofs.interval.Interval.widen.Goals as goal

pub returns-clause-value : goal.returns-clause-value
returns-clause-value c =
    let self_lo_fits : FitsSigned w128 c.self.inside.lo = search rules in
    let self_hi_fits : FitsSigned w128 c.self.inside.hi = search rules in
    let next_lo_fits : FitsSigned w128 c.next.inside.lo = search rules in
    let next_hi_fits : FitsSigned w128 c.next.inside.hi = search rules in
    let self_lo = back_to c.self.inside.lo c.args.self.now.lo self_lo_fits (ap (λ (r : Range). r.lo) c.self.view_is) in
    let self_hi = back_to c.self.inside.hi c.args.self.now.hi self_hi_fits (ap (λ (r : Range). r.hi) c.self.view_is) in
    let next_lo = back_to c.next.inside.lo c.args.next.now.lo next_lo_fits (ap (λ (r : Range). r.lo) c.next.view_is) in
    let next_hi = back_to c.next.inside.hi c.args.next.now.hi next_hi_fits (ap (λ (r : Range). r.hi) c.next.view_is) in
    let least : c.lower.result ≡ lowered c.args.t c.args.thresholds.now c.args.self.now.lo c.args.next.now.lo = cc in
    let greatest : c.raise.result ≡ raised c.args.t c.args.thresholds.now c.args.self.now.hi c.args.next.now.hi = cc in
    same_range _ _ _ _ (back_to _ _ (record { sfits = c.lower.type_inv }) least) (back_to _ _ (record { sfits = c.raise.type_inv }) greatest)
