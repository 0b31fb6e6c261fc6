use Rattle.std.proofs.Common.{length, refl, arith}
use Rattle.pk_cert_lines.proofs.Telling.{stands}
use Rattle.pk_cert_lines.proofs.reading.line_len.Goals as goal

pub returns-then-is_line : goal.returns-then-is_line
returns-then-is_line c = λ zs e.
    stands c.args.text.now c.args.bytes.now zs (length c.args.text.now) refl (λ z. omega (arith, z, c.if-n-eq0.false)) (omega (arith, c.if-bytes-n.false)) (c.if-is_line.ensures.last refl) (c.if-is_line.ensures.same refl) e
