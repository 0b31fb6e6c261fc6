use Rattle.std.proofs.Common.{◌≡◌, ◌++◌, drop}
use Rattle.pk_html.specs.Parts.{parts_text}
use Rattle.pk_page.specs.Findings.{each_finding}
use Rattle.pk_page.proofs.findings.write_each.Given as goal

-- what is written so far stands before what is left
abbrev pub invariant-loop-k : goal.invariant-loop-k
invariant-loop-k l =
    l.bytes.items ++ parts_text (each_finding l.number l.text (drop l.k l.operations)) ≡
    l.initial.bytes.items ++ parts_text (each_finding l.number l.text l.operations)
