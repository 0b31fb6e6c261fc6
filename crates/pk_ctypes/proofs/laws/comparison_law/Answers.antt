use Rattle.std.specs.Prelude.{◌≡◌, ◌⊎◌, ℤ, pos, int_lt, int_le, not, Bool, true, false, Ok}
use Rattle.std.specs.Ordering.{int_eq}
use Rattle.std.proofs.Common.{inl, inr}
use Rattle.pk_ctypes.specs.declared.types.IntType.{IntType}
use Rattle.pk_ctypes.specs.declared.types.Op.{Op}
use Rattle.pk_ctypes.specs.declared.faults.Fault.TheVariants.{Overflow}
use Rattle.pk_ctypes.specs.Operators.{truth, fitted, value_of}
use Rattle.pk_ctypes.specs.Laws.{IsComparison, less, greater, at_most, at_least, equal, different, negation}
use Rattle.pk_ctypes.proofs.Values.{fitted_inside, truth_in}
use Rattle.pk_ctypes.proofs.laws.comparison_law.Goals as goal

compared : (t : IntType) (b : Bool) → (fitted Overflow t (truth b) ≡ Ok (pos 0)) ⊎ (fitted Overflow t (truth b) ≡ Ok (pos 1))
compared t true = inr (fitted_inside Overflow t (pos 1) (truth_in t true))
compared t false = inl (fitted_inside Overflow t (pos 0) (truth_in t false))

truths : (op : Op) (t : IntType) (a b : ℤ) → IsComparison op → (value_of op t a b ≡ Ok (pos 0)) ⊎ (value_of op t a b ≡ Ok (pos 1))
truths op t a b is =
    elim is as (λ op _. (value_of op t a b ≡ Ok (pos 0)) ⊎ (value_of op t a b ≡ Ok (pos 1))) [
      | less ↦ compared t (int_lt a b)
      | greater ↦ compared t (int_lt b a)
      | at_most ↦ compared t (int_le a b)
      | at_least ↦ compared t (int_le b a)
      | equal ↦ compared t (int_eq a b)
      | different ↦ compared t (not (int_eq a b))
      | negation ↦ compared t (int_eq a (pos 0))
    ]

pub returns : goal.returns
returns c = truths
