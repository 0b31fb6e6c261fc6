use Rattle.std.proofs.Common.{◌≡◌, ◌+◌, ◌*◌, ◌++◌, take}
use Rattle.pk_cert_lines.specs.Symbols.{spaced, cells_in}
use Rattle.pk_cert_lines.proofs.values.write_bounds.Given as goal

abbrev pub invariant-loop-i : goal.invariant-loop-i
invariant-loop-i l = l.bytes.items ≡ l.fn.bytes.items ++ spaced (take (l.i * (2 * l.n)) (cells_in l.state.facts))

abbrev pub invariant-loop-j : goal.invariant-loop-j
invariant-loop-j l = l.bytes.items ≡ l.fn.bytes.items ++ spaced (take (l.i * (2 * l.n) + l.j) (cells_in l.state.facts))
