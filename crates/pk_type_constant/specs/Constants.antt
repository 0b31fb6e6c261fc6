-- What a constant expression gives (C99 6.6, 6.5): only what is evaluated can fault.
use Rattle.std.specs.Prelude.{ℤ, pos, not, Result, Ok, Err, if◌then◌else◌}
use Rattle.std.specs.Ordering.{int_eq}
use Rattle.pk_ctypes.specs.declared.types.IntType.{IntType}
use Rattle.pk_ctypes.specs.declared.types.Op.{Op}
use Rattle.pk_ctypes.specs.declared.faults.Fault.{Fault}
use Rattle.pk_ctypes.specs.Operators.{truth, value_of, right_number}
use Rattle.pk_ctypes.specs.Types.{wrapped}
use Rattle.pk_typed.specs.Trees.{ValueTree, EffectTree, constant, read, assign, update, step, call, any, unary, convert, binary, and, or, conditional, then_value, unused, run, assume, assert, abort, then_effect}
use Rattle.pk_type_constant.specs.declared.constants.Constant.{Constant}
use Rattle.pk_type_constant.specs.declared.constants.Constant.TheVariants.{Number, Faulty, NotConstant}

-- goes on with the number, if there is one
abbrev pub with_number : Constant → (ℤ → Constant) → Constant
with_number (Number n) go_on = go_on n
with_number (Faulty f) go_on = Faulty f
with_number NotConstant go_on = NotConstant

abbrev pub given : Result ℤ Fault → Constant
given (Ok n) = Number n
given (Err f) = Faulty f

-- an operator on two operands that are converted to its type
abbrev pub calculated : Op → IntType → Constant → Constant → Constant
calculated f t a b = with_number a (λ m. with_number b (λ n. given (value_of f t (wrapped t m) (right_number f t n))))

abbrev pub converted : IntType → Constant → Constant
converted t a = with_number a (λ n. Number (wrapped t n))

-- 1 for a number other than 0
abbrev pub truth_of : Constant → Constant
truth_of a = with_number a (λ n. Number (truth (not (int_eq n (pos 0)))))

-- one of two, by a number
abbrev pub chosen : Constant → Constant → Constant → Constant
chosen a if_true if_false = with_number a (λ n. if int_eq n (pos 0) then if_false else if_true)

unfoldable mutual
  pub constant_value : ValueTree → Constant
  constant_value (constant t n) = Number n
  constant_value (read p) = NotConstant
  constant_value (assign at p v) = NotConstant
  constant_value (update f at t p v) = NotConstant
  constant_value (step f at t p prefix) = NotConstant
  constant_value (call t f n at vs) = NotConstant
  constant_value (any t at) = NotConstant
  constant_value (unary f at t v) = calculated f t (constant_value v) (Number (pos 0))
  constant_value (convert t v) = converted t (constant_value v)
  constant_value (binary f at t v w) = calculated f t (constant_value v) (constant_value w)
  constant_value (and v w) = chosen (constant_value v) (truth_of (constant_value w)) (Number (pos 0))
  constant_value (or v w) = chosen (constant_value v) (Number (pos 1)) (truth_of (constant_value w))
  constant_value (conditional t u v w) =
      chosen (constant_value u) (converted t (constant_value v)) (converted t (constant_value w))
  constant_value (then_value e v) = with_number (constant_effect e) (λ n. constant_value v)

  -- what is evaluated last; a call is none
  pub constant_effect : EffectTree → Constant
  constant_effect (unused v) = constant_value v
  constant_effect (run f n at vs) = NotConstant
  constant_effect (assume at v) = NotConstant
  constant_effect (assert at v) = NotConstant
  constant_effect (abort at) = NotConstant
  constant_effect (then_effect e f) = with_number (constant_effect e) (λ n. constant_effect f)
