use Rattle.std.proofs.Common.{◌≡◌, ◌++◌, ◌≤◌, drop}
use Rattle.pk_html.specs.Parts.{parts_text}
use Rattle.pk_page.specs.Functions.{rows_from, rows_of}
use Rattle.pk_page.proofs.functions.write_rows.Given as goal

-- what is written so far stands before the row that is counted and what is left
abbrev pub invariant-loop-k : goal.invariant-loop-k
invariant-loop-k l = record {
  text : l.bytes.items ++ parts_text (rows_from l.name l.counts (drop l.k l.operations)) ≡
      l.initial.bytes.items ++ parts_text (rows_of l.operations);
  safe : l.counts.safe ≤ l.k;
  unknown : l.counts.unknown ≤ l.k;
  unreachable : l.counts.unreachable ≤ l.k;
}
