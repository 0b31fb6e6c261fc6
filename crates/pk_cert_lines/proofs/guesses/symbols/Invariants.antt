use Rattle.std.proofs.Common.{◌≡◌, vec_len}
use Rattle.pk_cert_lines.proofs.guesses.symbols.Given as goal

abbrev pub invariant-loop : goal.invariant-loop
invariant-loop l = vec_len l.out ≡ l.counter
