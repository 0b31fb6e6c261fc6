use Rattle.std.proofs.Common.{◌≡◌, ◌++◌, drop}
use Rattle.pk_html.specs.Parts.{parts_text}
use Rattle.pk_page.specs.Findings.{ways_parts}
use Rattle.pk_page.proofs.findings.write_ways.Given as goal

-- what is written so far stands before what is left
abbrev pub invariant-loop-k : goal.invariant-loop-k
invariant-loop-k l =
    l.bytes.items ++ parts_text (ways_parts l.number l.text (drop l.k l.ways)) ≡
    l.initial.bytes.items ++ parts_text (ways_parts l.number l.text l.ways)
