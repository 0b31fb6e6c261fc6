use Rattle.std.proofs.Common.{◌≡◌, drop, map}
use Rattle.std.specs.Prelude.{fold}
use Rattle.pk_page.specs.Marks.{marked_by, marks_of}
use Rattle.pk_page.proofs.marks.marked.Given as goal

abbrev pub invariant-loop-k : goal.invariant-loop-k
invariant-loop-k l = fold marked_by l.rows.items (drop l.k l.operations) ≡ marks_of (map (λ line. line.now) l.lines) l.operations
