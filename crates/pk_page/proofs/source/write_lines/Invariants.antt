use Rattle.std.proofs.Common.{◌≡◌, ◌++◌}
use Rattle.pk_html.specs.Parts.{parts_text}
use Rattle.pk_page.specs.Source.{lines_parts}
use Rattle.pk_page.proofs.source.write_lines.Given as goal

abbrev pub invariant-loop-k : goal.invariant-loop-k
invariant-loop-k l = l.bytes.items ≡ l.initial.bytes.items ++ parts_text (lines_parts l.number l.text l.operations l.k)
