use Rattle.std.proofs.Common.{◌≡◌, ◌++◌, take}
use Rattle.pk_html.specs.Escapes.{escaped}
use Rattle.pk_html.proofs.escapes.write_text.Given as goal

abbrev pub invariant-loop-b : goal.invariant-loop-b
invariant-loop-b l = l.bytes.items ≡ l.initial.bytes.items ++ escaped (take l.b-index l.text)
