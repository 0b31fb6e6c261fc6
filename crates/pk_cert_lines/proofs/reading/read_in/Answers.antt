use Rattle.std.proofs.Common.{◌≡◌, ℕ, ℤ, List, Option, subst}
use Rattle.std.specs.Prelude.{IfSome}
use Rattle.pk_cert.specs.Rows.{symbols_text}
use Rattle.pk_cert.specs.Pieces.{AreFirst}
use Rattle.pk_cert_lines.specs.Symbols.{spaced}
use Rattle.pk_cert_lines.proofs.Telling.{line_stands}
use Rattle.pk_cert_lines.proofs.reading.read_in.Goals as goal

pub returns-clause-line : goal.returns-clause-line
returns-clause-line c =
    line_stands c.args.order.now c.args.frame.now c.read_parts.new.told c.args.bytes.now c.line_len.result c.in_ok-read_parts.ensures
    (subst (λ (x : List ℕ). IfSome c.line_len.result (λ (n : ℕ). (zs : List (Option ℤ)) → x ≡ spaced zs → AreFirst (symbols_text zs) c.args.bytes.now n)) c.deref.ensures.value c.line_len.ensures)
