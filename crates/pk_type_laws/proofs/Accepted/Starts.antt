-- What objects of the file and static ones begin with, in an accepted text.
use Rattle.std.proofs.Common.{◌≡◌, ℕ, zero, suc, ◌≤◌, Bool, true, false, List, [], ◌∷◌, ◌++◌, Option, Some, None, length, refl, ap, sym, ◌∙◌, arith}
use Rattle.std.proofs.lemmas.Bool.{false≢true}
use Rattle.std.specs.Prelude.{ℤ, pos, All, slice_get}
use Rattle.std.specs.Option.{option_map}
use Rattle.pk_ctypes.specs.declared.places.Pos.{Pos}
use Rattle.pk_ctypes.specs.declared.types.IntType.{IntType}
use Rattle.pk_ctypes.specs.Types.{InType}
use Rattle.pk_ctypes.proofs.Wrapped.{wrapped_in, zero_in}
use Rattle.pk_ast.specs.Trees.{ExpressionTrees, no_expressions, expression_then, InitializerTree, single, braced}
use Rattle.pk_typed.specs.declared.values.Variable.TheVariants.{File}
use Rattle.pk_typed.specs.Defaults.{length_of_start}
use Rattle.pk_typed.specs.Trees.{FileObjectTree, UnitTree}
use Rattle.pk_type_scope.specs.declared.declarations.Typing.{Typing}
use Rattle.pk_type_scope.specs.declared.declarations.Typing.TheVariants.{Void, Integer, Unknown}
use Rattle.pk_type_scope.specs.Declarations.{is_void, is_unknown}
use Rattle.pk_type_expression.specs.Rules.{count}
use Rattle.pk_type_declaration.specs.Constants.{evaluated, number_in, after_constant}
use Rattle.pk_type_declaration.specs.Declarations.{integer_in, type_or_int, length_or_1}
use Rattle.pk_type_declaration.specs.Initializers.{given}
use Rattle.pk_type_declaration.specs.Starts.{number_or_0, number_at, after_numbers, numbers_at, first_or_0, start_of}
use Rattle.pk_type_declaration.specs.Rules as declarations
use Rattle.pk_type_declaration.specs.Rules.{braces, misfit}
use Rattle.pk_welltyped.specs.WellTyped.{Around, kind_in_file, IsStart}
use Rattle.pk_type_laws.specs.Accepted.Names.{ObjectIs}
use Rattle.pk_type_laws.proofs.Accepted.Walks.{W, Later, later_same, later, Steps, steps_none, steps}
use Rattle.pk_type_laws.proofs.Accepted.Declarations.{nth, later_constant, constant_steps, room}

pub later_numbers : (es : ExpressionTrees) (w : W) → Later w (after_numbers declarations.noting es w)
unfolding after_numbers
later_numbers no_expressions w = later_same w
later_numbers (expression_then e es) w = later w (after_constant declarations.noting e w) _ (later_constant e w) (later_numbers es (after_constant declarations.noting e w))

pub same_scope : (es : ExpressionTrees) (w : W) → (after_numbers declarations.noting es w).scoping ≡ w.scoping
unfolding after_numbers
same_scope no_expressions w = refl
same_scope (expression_then e es) w = same_scope es (after_constant declarations.noting e w)

pub same_locals : (es : ExpressionTrees) (w : W) → (after_numbers declarations.noting es w).locals ≡ w.locals
unfolding after_numbers
same_locals no_expressions w = refl
same_locals (expression_then e es) w = same_locals es (after_constant declarations.noting e w)

zero_is : (t : IntType) → InType t (pos 0)
zero_is t = record { from = (zero_in t).0; to = (zero_in t).1 }

number_in_type : (t : IntType) (o : Option ℤ) → InType t (number_or_0 t o)
number_in_type t None = zero_is t
number_in_type t (Some n) = wrapped_in t n

all_first : (t : IntType) (z : ℤ) (zs : List ℤ) → InType t z → All (InType t) zs → All (InType t) (z ∷ zs)
all_first t z zs h k zero d l = h
all_first t z zs h k (suc i) d l = k i d (omega (l, arith))

pub numbers_in_type : (t : IntType) (es : ExpressionTrees) (w : W) → All (InType t) (numbers_at declarations.noting t es w)
unfolding numbers_at
numbers_in_type t no_expressions w = λ k d l. absurd (omega (l, arith))
numbers_in_type t (expression_then e es) w = all_first t (number_at t w e) (numbers_at declarations.noting t es (after_constant declarations.noting e w)) (number_in_type t (number_in (evaluated w e))) (numbers_in_type t es (after_constant declarations.noting e w))

-- constants call nothing
pub numbers_steps : (es : ExpressionTrees) (w : W) → (after_numbers declarations.noting es w).found ≡ None → Steps w (after_numbers declarations.noting es w) [] 0
unfolding after_numbers
numbers_steps no_expressions w h = steps_none w w refl refl
numbers_steps (expression_then e es) w h =
    let v = after_constant declarations.noting e w in
    steps w v (after_numbers declarations.noting es v) [] [] 0 0 (constant_steps e w ((later_numbers es v).found h)) (numbers_steps es v h)

pub numbers_many : (t : IntType) (es : ExpressionTrees) (w : W) → length (numbers_at declarations.noting t es w) ≡ count es
unfolding numbers_at
numbers_many t no_expressions w = refl
numbers_many t (expression_then e es) w = let h = numbers_many t es (after_constant declarations.noting e w) in omega (h, arith)

first_in : (t : IntType) (zs : List ℤ) → All (InType t) zs → InType t (first_or_0 zs)
first_in t [] h = zero_is t
first_in t (z ∷ zs) h = h 0 z (omega arith)

pub given_fit : (x : Option InitializerTree) (n : ℕ) (at : Pos) → braces true x at ≡ [] → misfit (Some n) x ≡ [] → count (given x) ≤ n
given_fit None n at k h = omega arith
given_fit (Some (single e)) n at k h = absurd (cc)
given_fit (Some (braced o is)) n at k h = room (is.first ∷ is.more) n h

abbrev pub RoomIn : Bool → Option ℕ → ℕ → Type 0
RoomIn false n k = Unit {0}
RoomIn true None k = k ≤ 1
RoomIn true (Some m) k = (k ≤ m) × (1 ≤ m)

pub start_is : (t : IntType) (b : Bool) (n : Option ℕ) (zs : List ℤ) → All (InType t) zs → RoomIn b n (length zs) → IsStart t (start_of (length_or_1 b n) zs)
start_is t false n zs h k = first_in t zs h
start_is t true None zs h k = (k, h, omega arith)
start_is t true (Some m) zs h k = (k.0, h, k.1)

pub start_length : (b : Bool) (n : Option ℕ) (zs : List ℤ) → length_of_start (start_of (length_or_1 b n) zs) ≡ length_or_1 b n
start_length false n zs = refl
start_length true None zs = refl
start_length true (Some m) zs = refl

-- an object of the unit, at any place
pub object_is : (a : Around) (k : ℕ) (t : Typing) (b : Bool) (n : Option ℕ) → is_void t ≡ false → is_unknown t ≡ false → kind_in_file a.unit k ≡ Some (record { int_type = type_or_int t; length = length_or_1 b n }) → ObjectIs a b (integer_in t) (File k)
object_is a k Void b n p q h = absurd (false≢true (sym p))
object_is a k Unknown b n p q h = absurd (false≢true (sym q))
object_is a k (Integer t) false n p q h = h
object_is a k (Integer t) true None p q h = (1, h)
object_is a k (Integer t) true (Some n) p q h = (n, h)

-- the kind of an object that stands in the unit behind some others
pub its_kind : (u : UnitTree) (before rest : List FileObjectTree) (o : FileObjectTree) (n : Option ℕ) → u.objects ≡ before ++ o ∷ rest → length_of_start o.start ≡ n → kind_in_file u (length before) ≡ Some (record { int_type = o.int_type; length = n })
its_kind u before rest o n is l =
    let there : slice_get u.objects (length before) ≡ Some o = ap (λ (xs : List FileObjectTree). slice_get xs (length before)) is ∙ nth before o rest in
    ap (option_map (λ (y : FileObjectTree). record { int_type = y.int_type; length = length_of_start y.start })) there ∙ ap (λ (k : Option ℕ). Some (record { int_type = o.int_type; length = k })) l
