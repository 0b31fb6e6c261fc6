use Rattle.std.proofs.Common.{◌≡◌, ◌++◌, take}
use Rattle.pk_html.specs.Parts.{parts_text}
use Rattle.pk_html.proofs.parts.write.Given as goal

abbrev pub invariant-loop-part : goal.invariant-loop-part
invariant-loop-part l = l.bytes.items ≡ l.initial.bytes.items ++ parts_text (take l.part-index l.parts)
