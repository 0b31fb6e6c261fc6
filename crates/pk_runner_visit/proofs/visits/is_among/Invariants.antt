-- The object is among those that are left, or not at all.
use Rattle.std.proofs.Common.{◌≡◌, drop, map}
use Rattle.pk_meaning.specs.Objects.{is_in_scope}
use Rattle.pk_runner_frame.specs.Frames.{object_in}
use Rattle.pk_runner_visit.proofs.visits.is_among.Given as goal

abbrev pub invariant-loop-place : goal.invariant-loop-place
invariant-loop-place l = is_in_scope (object_in l.object) (map object_in (drop l.place l.list)) ≡ is_in_scope (object_in l.object) (map object_in l.list)
