use Rattle.std.proofs.Common.{arith, FitsSigned, ◌≡◌}
use Rattle.std.specs.Int.{w128}
use Rattle.std.proofs.lemmas.Int.{ints, to_z-of_z}
use Rattle.pk_interval.specs.Widening.{next_up}
use Rattle.pk_interval.proofs.NextThresholds.{up_in}
use Rattle.pk_interval.proofs.widening.raise.Goals as goal

pub returns-then-held-next-clause-bound : goal.returns-then-held-next-clause-bound
returns-then-held-next-clause-bound c =
    let own : FitsSigned w128 c.args.next = c.ranges.next in
    let inside = up_in c.args.t c.args.thresholds.now c.args.next c.requires.next in
    let is : c.up.result ≡ next_up c.args.t c.args.thresholds.now c.args.next = simp to_z-of_z at c.up.ensures in
    omega (arith, ints, inside.1, is)

pub returns-then-held-next-clause-inside : goal.returns-then-held-next-clause-inside
returns-then-held-next-clause-inside c =
    let own : FitsSigned w128 c.args.next = c.ranges.next in
    let fits : FitsSigned w128 c.up.result = record { sfits = c.up.type_inv } in
    let inside = up_in c.args.t c.args.thresholds.now c.args.next c.requires.next in
    let is : c.up.result ≡ next_up c.args.t c.args.thresholds.now c.args.next = simp to_z-of_z at c.up.ensures in
    simp to_z-of_z (rw is inside.0)
