use Rattle.std.proofs.Common.{arith}
use Rattle.pk_cert.proofs.Parts.{literal_stops}
use Rattle.pk_cert.proofs.pieces.literal.Goals as goal
use Rattle.pk_cert.proofs.pieces.literal.Goals.{then-k-bytes-via-then-k-bytes, then-k-bytes-via-else-k-bytes+then-bytes-k}

pub returns-then-k-bytes : goal.returns-then-k-bytes
returns-then-k-bytes c =
    literal_stops c.args.text.now c.args.bytes.now c.loop-k.k c.loop-k-test.true c.loop-k.invariant.0 c.loop-k.invariant.1
    (λ h e. elim c.then-k-bytes.branch [ then-k-bytes-via-then-k-bytes w ↦ omega arith | then-k-bytes-via-else-k-bytes+then-bytes-k w ↦ w.if-bytes-k.true e ])
