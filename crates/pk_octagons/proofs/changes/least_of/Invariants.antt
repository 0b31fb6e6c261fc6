use Rattle.std.proofs.Common.{◌≡◌, drop, None}
use Rattle.pk_octagons.proofs.Least.{least_with, told_at}
use Rattle.pk_octagons.proofs.changes.least_of.Given as goal

-- the least of so many, and of the others
abbrev pub invariant-loop-n : goal.invariant-loop-n
invariant-loop-n l = least_with (told_at l.packs l.all l.i l.j) l.least (drop l.n l.places) ≡ least_with (told_at l.packs l.all l.i l.j) None l.places
