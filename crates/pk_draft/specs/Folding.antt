-- Trees as the lowering makes them: conversions that change no value of their operand's type are left out, and what has constant operands and no fault is replaced by its value.
use Rattle.std.specs.Prelude.{Bool, true, false, if◌then◌else◌, ℤ, Option, Some, None, Result, Ok, Err, option_map}
use Rattle.std.specs.Option.{option_and_then}
use Rattle.pk_ctypes.specs.declared.faults.Fault.{Fault}
use Rattle.pk_ctypes.specs.declared.types.IntType.{IntType}
use Rattle.pk_ctypes.specs.declared.types.Op.{Op}
use Rattle.pk_ctypes.specs.Classes.{OperatorClass, arithmetic, shift, comparison, negation, class_of}
use Rattle.pk_ctypes.specs.Classes as classes
use Rattle.pk_ctypes.specs.Types.{represents, wrapped}
use Rattle.pk_ctypes.specs.Conversions.{promoted}
use Rattle.pk_ctypes.specs.Operators.{value_of, result_type}
use Rattle.pk_graph.specs.declared.trees.Site.{Site}
use Rattle.pk_graph.specs.Trees.{TreeOf, constant, variable, converted, unary, binary}

-- the number of a constant
abbrev pub number_in : {V : Type 0} → TreeOf V → Option ℤ
number_in (constant t n) = Some n
number_in (variable x) = None
number_in (converted t e) = None
number_in (unary op s t e) = None
number_in (binary op s t a b) = None

-- the value where there is one without a fault, else the tree
abbrev pub folded : {V : Type 0} → IntType → TreeOf V → Option (Result ℤ Fault) → TreeOf V
folded t e None = e
folded t e (Some (Ok n)) = constant t n
folded t e (Some (Err f)) = e

abbrev pub kept_if : {V : Type 0} → Bool → IntType → TreeOf V → TreeOf V
kept_if true t e = e
kept_if false t e = converted t e

-- the conversion to t of the tree of an expression of type u
abbrev pub conversion : {V : Type 0} → (u t : IntType) → TreeOf V → TreeOf V
conversion u t e = folded t (kept_if (represents t u) t e) (option_map (λ z. Ok (wrapped t z)) (number_in e))

-- a shift's count isn't converted to the operator's type
abbrev pub is_of_shifts : OperatorClass → Bool
is_of_shifts arithmetic = false
is_of_shifts shift = true
is_of_shifts comparison = false
is_of_shifts classes.unary = false
is_of_shifts negation = false

abbrev pub is_shift : Op → Bool
is_shift op = is_of_shifts (class_of op)

-- the type of an operator's right operand of type u, where the left has type t: a shift's count is promoted alone
abbrev pub right_type : Op → (u t : IntType) → IntType
right_type op u t = if is_shift op then promoted u else t

-- an operator in a type
abbrev pub unary_tree : {V : Type 0} → Op → Site → IntType → TreeOf V → TreeOf V
unary_tree op s t e = folded (result_type op t) (unary op s t e) (option_map (λ z. value_of op t z z) (number_in e))

abbrev pub binary_tree : {V : Type 0} → Op → Site → IntType → TreeOf V → TreeOf V → TreeOf V
binary_tree op s t a b =
    folded (result_type op t) (binary op s t a b)
    (option_and_then (λ z. option_map (λ w. value_of op t z w) (number_in b)) (number_in a))

-- of operands that have the types u and v
abbrev pub operated_tree : {V : Type 0} → Op → Site → IntType → (u v : IntType) → TreeOf V → TreeOf V → TreeOf V
operated_tree op s t u v a b = binary_tree op s t (conversion u t a) (conversion v (right_type op v t) b)

-- what an assignment with an operator in type t writes to a place of type u, by an operand of type v
abbrev pub updated_tree : {V : Type 0} → Op → Site → IntType → (u v : IntType) → TreeOf V → TreeOf V → TreeOf V
updated_tree op s t u v a b = conversion (result_type op t) u (operated_tree op s t u v a b)
