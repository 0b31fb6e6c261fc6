-- The answer of typing: a typed tree exactly where no rule fails, else the earliest place and the upper rule there.
use Rattle.std.specs.Prelude.{◌≡◌, ℕ, List, [], Some, None}
use Rattle.pk_ast.specs.Trees.{ExternalTree}
use Rattle.pk_typed.specs.Trees.{UnitTree}
use Rattle.pk_type_scope.specs.declared.failures.Failure.{Failure}
use Rattle.pk_type_scope.specs.Failures.{IsFirst}
use Rattle.pk_type.specs.Units.{checked, unit_of}
use Rattle.pk_type.specs.Rules as units
use Rattle.pk_type_laws.specs.Answered.Failures.{listing, failures_of}

pub data Answer : Type 0 where
  accepted : UnitTree → Answer
  refused : Failure → Answer

abbrev pub IsAnswer : List ℕ → List ExternalTree → Answer → Type 0
IsAnswer text xs (accepted u) = (failures_of text xs ≡ []) × (u ≡ unit_of (listing text xs))
IsAnswer text xs (refused f) = IsFirst (failures_of text xs) f

-- A text has one typed tree or one failure, not both, and one of them it has.
pub record TextsHaveOneAnswer : Type 0 where
  pub one : (text : List ℕ) (xs : List ExternalTree) → (a : Answer) × IsAnswer text xs a
  pub alone : (text : List ℕ) (xs : List ExternalTree) (a b : Answer) → IsAnswer text xs a → IsAnswer text xs b → a ≡ b

-- Keeping one failure on the way, the first so far, answers as keeping all of them does.
pub record CheckGivesTheAnswer : Type 0 where
  pub typed : (text : List ℕ) (xs : List ExternalTree) → (checked units.noting None text xs).walked.found ≡ None →
      IsAnswer text xs (accepted (unit_of (checked units.noting None text xs)))
  pub fails : (text : List ℕ) (xs : List ExternalTree) (f : Failure) →
      (checked units.noting None text xs).walked.found ≡ Some f → IsAnswer text xs (refused f)
