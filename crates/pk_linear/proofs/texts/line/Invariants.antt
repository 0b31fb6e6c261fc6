use Rattle.std.proofs.Common.{◌≡◌, [], drop}
use Rattle.pk_linear.proofs.TextLemmas.{written}
use Rattle.pk_linear.proofs.texts.line.Given as goal

abbrev pub invariant-loop-place : goal.invariant-loop-place
invariant-loop-place l = written l.end l.bytes.items (drop l.place-index l.place-items) ≡ written l.end [] l.place-items
