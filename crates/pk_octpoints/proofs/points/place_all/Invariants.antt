use Rattle.std.specs.Prelude.{◌+◌, ◌<◌, ℕ}
use Rattle.pk_octpoints.specs.Points.{IsPart, IsThere, Keeps}
use Rattle.pk_octpoints.proofs.points.place_all.Given as goal

abbrev pub invariant-loop-k : goal.invariant-loop-k
invariant-loop-k l = record { part : IsPart l.m (7 + l.k) l.part; kept : Keeps l.fn.part l.part; there : (q : ℕ) → q < l.k → IsThere l.part q }
