use Rattle.std.proofs.Common.{◌≡◌, drop}
use Rattle.std.specs.List.{list_all}
use Rattle.pk_findings.specs.Shown.{is_row_within}
use Rattle.pk_findings.proofs.shown.are_rows_within.Given as goal

-- it depends on the rest
abbrev pub invariant-loop-k : goal.invariant-loop-k
invariant-loop-k l =
    list_all (is_row_within l.text) (drop l.k l.rows) ≡ list_all (is_row_within l.text) l.rows
