use Rattle.pk_cert.proofs.Lines.{SymbolsSo}
use Rattle.pk_cert.proofs.reading.symbols.Given as goal

-- the symbols of the bytes so far
abbrev pub invariant-loop-k : goal.invariant-loop-k
invariant-loop-k l = SymbolsSo l.bounds l.count l.bytes l.symbols.items l.k l.at
