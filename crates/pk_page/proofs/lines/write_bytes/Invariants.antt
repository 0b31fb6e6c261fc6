use Rattle.std.proofs.Common.{◌≡◌, ◌++◌, ◌+◌, ◌-◌, None, drop}
use Rattle.std.specs.Prelude.{slice_index_or}
use Rattle.pk_html.specs.Parts.{parts_text}
use Rattle.pk_page.specs.Source.{bytes_parts}
use Rattle.pk_page.proofs.lines.write_bytes.Given as goal

-- what is written so far stands before what is left
abbrev pub invariant-loop-k : goal.invariant-loop-k
invariant-loop-k l =
    l.bytes.items ++ parts_text (bytes_parts (λ column. slice_index_or l.marks (column - 1) None) (l.k + 1) l.under (drop l.k l.line)) ≡
    l.initial.bytes.items ++ parts_text (bytes_parts (λ column. slice_index_or l.marks (column - 1) None) 1 None l.line)
