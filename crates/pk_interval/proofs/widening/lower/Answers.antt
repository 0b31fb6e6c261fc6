use Rattle.std.proofs.Common.{arith, FitsSigned, ◌≡◌}
use Rattle.std.specs.Int.{w128}
use Rattle.std.proofs.lemmas.Int.{ints, to_z-of_z}
use Rattle.pk_interval.specs.Widening.{next_down}
use Rattle.pk_interval.proofs.NextThresholds.{down_in}
use Rattle.pk_interval.proofs.widening.lower.Goals as goal

pub returns-then-next-held-clause-bound : goal.returns-then-next-held-clause-bound
returns-then-next-held-clause-bound c =
    let own : FitsSigned w128 c.args.next = c.ranges.next in
    let inside = down_in c.args.t c.args.thresholds.now c.args.next c.requires.next in
    let is : c.down.result ≡ next_down c.args.t c.args.thresholds.now c.args.next = simp to_z-of_z at c.down.ensures in
    omega (arith, ints, inside.1, is)

pub returns-then-next-held-clause-inside : goal.returns-then-next-held-clause-inside
returns-then-next-held-clause-inside c =
    let own : FitsSigned w128 c.args.next = c.ranges.next in
    let fits : FitsSigned w128 c.down.result = record { sfits = c.down.type_inv } in
    let inside = down_in c.args.t c.args.thresholds.now c.args.next c.requires.next in
    let is : c.down.result ≡ next_down c.args.t c.args.thresholds.now c.args.next = simp to_z-of_z at c.down.ensures in
    simp to_z-of_z (rw is inside.0)
