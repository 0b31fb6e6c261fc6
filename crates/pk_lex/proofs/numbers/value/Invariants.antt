use Rattle.std.proofs.Common.{◌≡◌, take}
use Rattle.pk_lex.specs.Bytes.{value_in}
use Rattle.pk_lex.proofs.numbers.value.Given as goal

abbrev pub invariant-loop-b : goal.invariant-loop-b
invariant-loop-b l = l.value ≡ value_in l.base (take l.b-index l.digits)
