-- What the tree of an expression is, and whether lowering it makes an edge: known before it is lowered.
use Rattle.std.specs.Prelude.{Bool, true, false, not, ◌||◌, if◌then◌else◌, ℤ, Option, Some, None, Result, Ok, Err, option_map}
use Rattle.std.specs.Option.{option_and_then}
use Rattle.pk_ctypes.specs.declared.faults.Fault.{Fault}
use Rattle.pk_ctypes.specs.declared.types.IntType.{IntType}
use Rattle.pk_ctypes.specs.declared.types.Op.{Op}
use Rattle.pk_ctypes.specs.Types.{represents, wrapped}
use Rattle.pk_ctypes.specs.Operators.{value_of}
use Rattle.pk_typed.specs.Trees.{PlaceTree, ValueTree, EffectTree, ValueTrees}
use Rattle.pk_typed.specs.Trees as tree
use Rattle.pk_typed.specs.Types.{type_of}
use Rattle.pk_draft.specs.Folding.{right_type}
use Rattle.pk_lower_row.specs.declared.shapes.Shape.{Shape}
use Rattle.pk_lower_row.specs.declared.shapes.Shape.TheVariants.{Fixed, Temporary, Named, Other}
use Rattle.pk_lower_row.specs.declared.shapes.Waiting.{Waiting}
use Rattle.pk_lower_row.specs.declared.shapes.Waiting.TheVariants.{Loose, Strong, Weak}

abbrev pub number_in_shape : Shape → Option ℤ
number_in_shape (Fixed z) = Some z
number_in_shape Temporary = None
number_in_shape Named = None
number_in_shape Other = None

abbrev pub folded_shape : Shape → Option (Result ℤ Fault) → Shape
folded_shape s None = s
folded_shape s (Some (Ok z)) = Fixed z
folded_shape s (Some (Err f)) = s

abbrev pub kept_shape_if : Bool → Shape → Shape
kept_shape_if true s = s
kept_shape_if false s = Other

abbrev pub converted_shape : (u t : IntType) → Shape → Shape
converted_shape u t s =
    folded_shape (kept_shape_if (represents t u) s) (option_map (λ z. Ok (wrapped t z)) (number_in_shape s))

abbrev pub unary_shape : Op → IntType → Shape → Shape
unary_shape op t s = folded_shape Other (option_map (λ z. value_of op t z z) (number_in_shape s))

abbrev pub binary_shape : Op → IntType → Shape → Shape → Shape
binary_shape op t a b =
    folded_shape Other
    (option_and_then (λ z. option_map (λ w. value_of op t z w) (number_in_shape b)) (number_in_shape a))

abbrev pub operated_shape : Op → IntType → (u v : IntType) → Shape → Shape → Shape
operated_shape op t u v a b = binary_shape op t (converted_shape u t a) (converted_shape v (right_type op v t) b)

-- what is read or was assigned: a scalar itself, of an element a temporary
abbrev pub shape_of_place : PlaceTree → Shape
shape_of_place (tree.scalar t x) = Named
shape_of_place (tree.element t x at i) = Temporary

abbrev pub shape_of : ValueTree → Shape
shape_of (tree.constant t z) = Fixed z
shape_of (tree.read p) = shape_of_place p
shape_of (tree.assign at p e) = shape_of_place p
shape_of (tree.update op at t p e) = shape_of_place p
shape_of (tree.step op at t p prefix) = if prefix then shape_of_place p else Temporary
shape_of (tree.call t f n at es) = Named
shape_of (tree.any t at) = Temporary
shape_of (tree.unary op at t e) = unary_shape op t (converted_shape (type_of e) t (shape_of e))
shape_of (tree.convert t e) = converted_shape (type_of e) t (shape_of e)
shape_of (tree.binary op at t a b) = operated_shape op t (type_of a) (type_of b) (shape_of a) (shape_of b)
shape_of (tree.and a b) = Temporary
shape_of (tree.or a b) = Temporary
shape_of (tree.conditional t c a b) = Temporary
shape_of (tree.then_value e v) = shape_of v

-- a constant or temporary, which no edge changes
abbrev pub is_calm : Shape → Bool
is_calm (Fixed z) = true
is_calm Temporary = true
is_calm Named = false
is_calm Other = false

-- a constant, variable or temporary
abbrev pub is_plain : Shape → Bool
is_plain (Fixed z) = true
is_plain Temporary = true
is_plain Named = true
is_plain Other = false

abbrev pub makes_at_place : PlaceTree → Bool
makes_at_place (tree.scalar t x) = false
makes_at_place (tree.element t x at i) = true

abbrev mutual
  -- lowering the expression makes an edge
  pub makes : ValueTree → Bool
  makes (tree.constant t z) = false
  makes (tree.read p) = makes_at_place p
  makes (tree.assign at p e) = true
  makes (tree.update op at t p e) = true
  makes (tree.step op at t p prefix) = true
  makes (tree.call t f n at es) = true
  makes (tree.any t at) = true
  makes (tree.unary op at t e) = makes e
  makes (tree.convert t e) = makes e
  makes (tree.binary op at t a b) = makes a || makes b
  makes (tree.and a b) = true
  makes (tree.or a b) = true
  makes (tree.conditional t c a b) = true
  makes (tree.then_value e v) = makes_effect e || makes v

  pub makes_effect : EffectTree → Bool
  makes_effect (tree.unused v) = makes v || not (is_plain (shape_of v))
  makes_effect (tree.run f n at es) = true
  makes_effect (tree.assume at e) = true
  makes_effect (tree.assert at e) = true
  makes_effect (tree.abort at) = true
  makes_effect (tree.then_effect a b) = makes_effect a || makes_effect b

abbrev pub any_makes : ValueTrees → Bool
any_makes tree.no_values = false
any_makes (tree.value_before e es) = makes e || any_makes es

abbrev pub strong_if : Bool → Waiting
strong_if true = Strong
strong_if false = Loose

abbrev pub strong_or_weak : Bool → Waiting
strong_or_weak true = Strong
strong_or_weak false = Weak

-- the tree stays as it is
abbrev pub stays : Waiting → Shape → Bool
stays Loose s = true
stays Strong s = is_calm s
stays Weak s = is_plain s
