use Rattle.std.proofs.Common.{◌-◌, length}
use Rattle.pk_number.proofs.NumberLemmas.{AreNumbersFrom}
use Rattle.pk_number.proofs.walks.numbers_of.Given as goal

-- those from the place on have their numbers
abbrev pub invariant-loop-past : goal.invariant-loop-past
invariant-loop-past l = AreNumbersFrom l.count l.order (length l.order - l.past) l.numbers.items
