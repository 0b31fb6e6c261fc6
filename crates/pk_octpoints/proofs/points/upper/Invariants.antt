use Rattle.std.proofs.Common.{◌^◌, ◌≡◌}
use Rattle.pk_octmat.specs.Bounds.{IsNear}
use Rattle.pk_octmat.specs.Octagon.{entry}
use Rattle.pk_octpoints.specs.Points.{number_at}
use Rattle.pk_octpoints.specs.Parts.{bound_by}
use Rattle.pk_octpoints.proofs.points.upper.Given as goal

abbrev pub invariant-loop-i : goal.invariant-loop-i
invariant-loop-i l = record { is : l.least ≡ bound_by (entry l.m) (number_at l.part) l.p l.i; near : IsNear (2 ^ 100) l.least }
