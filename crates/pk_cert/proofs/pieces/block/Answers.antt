use Rattle.std.proofs.Common.{arith}
use Rattle.std.proofs.lemmas.Bool.Decides.{nat_tests}
use Rattle.pk_cert.proofs.Parts.{block_stops, block_stops_short}
use Rattle.pk_cert.proofs.pieces.block.Goals as goal
use Rattle.pk_cert.proofs.pieces.block.Goals.{then-bytes-size-2, else-bytes-size-2}

pub returns-then-bytes-size : goal.returns-then-bytes-size
returns-then-bytes-size c = block_stops_short c.args.size c.args.bytes.now c.if-bytes-size.true

pub returns-then-bytes-size-ne10 : goal.returns-then-bytes-size-ne10
returns-then-bytes-size-ne10 c = block_stops c.args.size c.args.bytes.now (omega arith) (λ h e. elim c.if-bytes-size-2.branch [
  | then-bytes-size-2 w ↦ omega (arith, h, w.if-bytes-size-2.true)
  | else-bytes-size-2 w ↦ let t = c.if-bytes-size-ne10.true in let v = w.value-is in grind (arith, nat_tests)
])
