use Rattle.pk_cert_lines.specs.Told.{IsTextOf}
use Rattle.pk_cert_lines.proofs.reading.read_parts.Given as goal

abbrev pub invariant-loop : goal.invariant-loop
invariant-loop l = IsTextOf l.order l.frame l.told
