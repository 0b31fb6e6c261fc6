-- The rules of statements, by what stands there.
use Rattle.std.specs.Prelude.{ℤ, Bool, true, false, not, is_some, Option, Some, None, List, [], ◌∷◌, ◌++◌, if◌then◌else◌}
use Rattle.std.specs.Ordering.{int_eq}
use Rattle.pk_ctypes.specs.declared.types.IntType.{IntType}
use Rattle.pk_ctypes.specs.declared.words.Rule.TheVariants as rule
use Rattle.pk_ctypes.specs.Conversions.{promoted}
use Rattle.pk_ctypes.specs.Types.{wrapped}
use Rattle.pk_type_scope.specs.declared.declarations.Typing.{Typing}
use Rattle.pk_type_scope.specs.declared.declarations.Typing.TheVariants.{Void, Integer, Unknown}
use Rattle.pk_type_scope.specs.declared.failures.Failure.{Failure}
use Rattle.pk_type_scope.specs.Failures.{fails_if, noted}
use Rattle.pk_type_declaration.specs.Rules as declarations
use Rattle.pk_type_declaration.specs.Rules.{Adding}
use Rattle.pk_type_statement.specs.declared.statements.Case.{Case}
use Rattle.pk_type_statement.specs.Checks.{StatementChecks}

-- return: a value in a void function, or none in another; at `return`
abbrev pub returns_otherwise : Typing → Bool → Bool
returns_otherwise Void has_value = has_value
returns_otherwise (Integer t) has_value = not has_value
returns_otherwise Unknown has_value = false

-- numbers, by what is among them
abbrev pub Numbers : Type 0
Numbers = ℤ → Bool

abbrev pub no_number : Numbers
no_number n = false

abbrev pub with_number : Numbers → ℤ → Numbers
with_number before m n = if int_eq m n then true else before n

abbrev pub is_repeated : IntType → Numbers → Option ℤ → Bool
is_repeated t before None = false
is_repeated t before (Some n) = before (wrapped t n)

abbrev pub and_case : IntType → Numbers → Option ℤ → Numbers
and_case t before None = before
and_case t before (Some n) = with_number before (wrapped t n)

-- jump: the values of two cases are equal, converted to the promoted type of the `switch` (6.8.4.2); at the later one's `case`
abbrev pub repeated : IntType → Numbers → List Case → List Failure
repeated t before [] = []
repeated t before (c ∷ cs) =
    fails_if (is_repeated t before c.value) rule.Jump c.at ++ repeated t (and_case t before c.value) cs

abbrev pub repeated_cases : Typing → List Case → List Failure
repeated_cases Void cases = []
repeated_cases (Integer t) cases = repeated (promoted t) no_number cases
repeated_cases Unknown cases = []

-- the failures at each form are added
abbrev pub adding : {F : Type 0} → Adding F → StatementChecks F
adding add = record {
  declarations = declarations.adding add;
  return = λ t at e found. add found (fails_if (returns_otherwise t (is_some e)) rule.Return at);
  cases = λ t cases found. add found (repeated_cases t cases);
}

-- the failure that is answered, of those found
abbrev pub noting : StatementChecks (Option Failure)
noting = adding noted
