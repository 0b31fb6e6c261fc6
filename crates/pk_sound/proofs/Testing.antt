-- The test of the order tells whether a family is solved.
use Rattle.pk_analysis.proofs.OrderLemmas.{below_decides}
use Rattle.pk_sound.specs.Families.{given_on, FamiliesAreTested}
use Rattle.pk_sound.proofs.Holding.{given_stays}

pub families_are_tested : FamiliesAreTested
families_are_tested g l known made facts = record {
  solved = λ each. record { facts = facts; below = λ v h. (below_decides l (given_on g l known v) (known v) (given_stays g l known made facts v) (facts v h)).0 (each v h) };
  passes = λ solved v h. (below_decides l (given_on g l known v) (known v) (given_stays g l known made facts v) (facts v h)).1 (solved.below v h);
}
