use Rattle.std.proofs.Common.{◌≡◌, take}
use Rattle.std.specs.Fmt.{decimal}
use Rattle.pk_cert.specs.Pieces.{value_of, IsDecimal, IsBetween}
use Rattle.pk_cert.proofs.numbers.count.Given as goal

-- the digits so far are the number's
abbrev pub invariant-loop-k : goal.invariant-loop-k
invariant-loop-k l = record {
  is : IsDecimal l.number;
  between : IsBetween l.least (value_of l.most) (value_of l.number);
  told : take l.k l.bytes ≡ decimal (value_of l.number);
}
