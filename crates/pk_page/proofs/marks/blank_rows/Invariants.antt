use Rattle.std.proofs.Common.{◌≡◌, ◌++◌, drop, map}
use Rattle.pk_page.specs.Marks.{blank}
use Rattle.pk_page.proofs.marks.blank_rows.Given as goal

abbrev pub invariant-loop-k : goal.invariant-loop-k
invariant-loop-k l = l.rows.items ++ blank (map (λ line. line.now) (drop l.k l.lines)) ≡ blank (map (λ line. line.now) l.lines)
