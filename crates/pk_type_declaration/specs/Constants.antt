-- The rule on constant expressions, and array lengths.
use Rattle.std.specs.Prelude.{ℕ, ℤ, pos, Bool, true, false, not, ◌&&◌, ◌||◌, int_le, unsigned_abs, Option, Some, None, if◌then◌else◌}
use Rattle.pk_ast.specs.Trees.{ExpressionTree}
use Rattle.pk_typed.specs.Trees.{ValueTree}
use Rattle.pk_type_constant.specs.declared.constants.Constant.{Constant}
use Rattle.pk_type_constant.specs.declared.constants.Constant.TheVariants.{Number, Faulty, NotConstant}
use Rattle.pk_type_constant.specs.Constants.{constant_value}
use Rattle.pk_type_constant.specs.Forms.{is_constant_form}
use Rattle.pk_type_declaration.specs.declared.constants.Evaluated.{Evaluated}
use Rattle.pk_type_declaration.specs.Checks.{DeclarationChecks}
use Rattle.pk_type_declaration.specs.Walks.{Walked, here, finding, after_value, value_at}
use Rattle.pk_typed.specs.Limits.{length_limit}

-- what an expression gives, where it has a typed tree
abbrev pub given_by : Option ValueTree → Constant
given_by None = NotConstant
given_by (Some v) = constant_value v

-- an expression that has to be constant
abbrev pub evaluated : {F : Type 0} → Walked F → ExpressionTree → Evaluated
evaluated w e = record { is_form = is_constant_form (here w) e; constant = given_by (value_at w e) }

abbrev pub is_faulty : Constant → Bool
is_faulty (Number n) = false
is_faulty (Faulty f) = true
is_faulty NotConstant = false

-- it isn't a constant expression, or it has a fault
abbrev pub is_refused : Evaluated → Bool
is_refused v = not v.is_form || is_faulty v.constant

abbrev pub is_length : ℤ → Bool
is_length n = int_le (pos 1) n && int_le n (pos length_limit)

abbrev pub is_outside : Constant → Bool
is_outside (Number n) = not (is_length n)
is_outside (Faulty f) = true
is_outside NotConstant = false

-- it isn't a constant expression, has a fault, or isn't 1 to the limit
abbrev pub is_refused_length : Evaluated → Bool
is_refused_length v = not v.is_form || is_outside v.constant

abbrev pub number_of : Constant → Option ℤ
number_of (Number n) = Some n
number_of (Faulty f) = None
number_of NotConstant = None

-- its number, where nothing is refused
abbrev pub number_in : Evaluated → Option ℤ
number_in v = if is_refused v then None else number_of v.constant

abbrev pub magnitude : Option ℤ → Option ℕ
magnitude None = None
magnitude (Some n) = Some (unsigned_abs n)

abbrev pub length_in : Evaluated → Option ℕ
length_in v = if is_refused_length v then None else magnitude (number_of v.constant)

-- after an expression that has to be constant
abbrev pub after_constant : {F : Type 0} → DeclarationChecks F → ExpressionTree → Walked F → Walked F
after_constant c e w = finding (c.constant (evaluated w e) e) (after_value c e w)

-- after the length of an array
abbrev pub after_length : {F : Type 0} → DeclarationChecks F → ExpressionTree → Walked F → Walked F
after_length c e w = finding (c.length (evaluated w e) e) (after_value c e w)
