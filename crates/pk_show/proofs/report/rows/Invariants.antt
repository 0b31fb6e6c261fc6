use Rattle.std.proofs.Common.{◌≡◌, ◌+◌, ◌++◌, drop, map, None}
use Rattle.std.specs.Option.{option_map}
use Rattle.pk_show.specs.Reports.{rows_in, lines_read}
use Rattle.pk_show.proofs.report.rows.Given as goal

-- the rows so far stand before those of the rest
abbrev pub invariant-loop-k : goal.invariant-loop-k
invariant-loop-k l = record {
  rows : option_map (λ rest. l.rows.items ++ rest) (rows_in (map (λ line. line.now) (drop l.k l.lines)) l.before) ≡
      rows_in (map (λ line. line.now) l.lines) None;
  read : l.k + lines_read (map (λ line. line.now) (drop l.k l.lines)) l.before ≡
      lines_read (map (λ line. line.now) l.lines) None;
}
