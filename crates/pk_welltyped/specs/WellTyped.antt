-- Typed trees that agree with the objects, functions and labels which they name (C99 6.5 to 6.9): what typing ensures of an accepted text, and the lowering stands on.
use Rattle.std.specs.Prelude.{◌≡◌, ℕ, ◌+◌, ◌<◌, ◌≤◌, Bool, true, false, List, [], ◌∷◌, length, slice_get, All, Option, Some, None, option_map}
use Rattle.pk_ctypes.specs.declared.types.IntType.{IntType}
use Rattle.pk_ctypes.specs.declared.types.Op.{Op}
use Rattle.pk_ctypes.specs.Classes.{OperatorClass, arithmetic, shift, comparison, negation, class_of}
use Rattle.pk_ctypes.specs.Classes as classes
use Rattle.pk_ctypes.specs.Types.{InType}
use Rattle.pk_typed.specs.declared.values.Variable.{Variable}
use Rattle.pk_typed.specs.declared.values.Variable.TheVariants.{File, Local}
use Rattle.pk_typed.specs.Trees.{PlaceTree, ValueTree, EffectTree, ValueTrees, DeclaredTree, ForStartTree, StatementTree, ItemTrees, LocalTree, BodyTree, FunctionTree, StartTree, FileObjectTree, UnitTree}
use Rattle.pk_typed.specs.Trees as tree
use Rattle.pk_welltyped.specs.Listed.{objects_in_declared, objects_at_start, objects_in, calls_in_items, numbered}
use Rattle.pk_typed.specs.Defaults.{length_of_start}
use Rattle.pk_graph.specs.Kinds.{Kind, scalar_kind, array_kind}
use Rattle.pk_typed.specs.Limits.{length_limit}

-- how many operands an operator has
abbrev pub operands_of : OperatorClass → ℕ
operands_of arithmetic = 2
operands_of shift = 2
operands_of comparison = 2
operands_of classes.unary = 1
operands_of negation = 1

abbrev pub operands : Op → ℕ
operands op = operands_of (class_of op)

-- ---- objects and functions

-- what is declared around a place of a function: the unit, all objects of the function, and how many of these are declared before the place
pub record Around : Type 0 where
  pub unit : UnitTree
  pub locals : List LocalTree
  pub objects : ℕ

-- behind n more objects
abbrev pub behind : ℕ → Around → Around
behind n a = record { unit = a.unit; locals = a.locals; objects = a.objects + n }

abbrev pub kind_in_file : UnitTree → ℕ → Option Kind
kind_in_file u i =
    option_map (λ (x : FileObjectTree). record { int_type = x.int_type; length = length_of_start x.start })
    (slice_get u.objects i)

abbrev pub kind_among : List LocalTree → ℕ → Option Kind
kind_among xs i = option_map (λ (x : LocalTree). record { int_type = x.int_type; length = x.length }) (slice_get xs i)

-- an object of this kind that is declared before the place
abbrev pub IsObject : Around → Kind → Variable → Type 0
IsObject a k (File i) = kind_in_file a.unit i ≡ Some k
IsObject a k (Local i) = (i < a.objects) × (kind_among a.locals i ≡ Some k)

abbrev pub IsArray : Around → IntType → Variable → Type 0
IsArray a t x = (n : ℕ) × IsObject a (array_kind t n) x

abbrev pub count : ValueTrees → ℕ
count tree.no_values = 0
count (tree.value_before e es) = 1 + count es

-- the function takes so many arguments, and returns this
abbrev pub Takes : ℕ → Option IntType → Option FunctionTree → Type 0
Takes n r None = ⊥
Takes n r (Some f) = (f.returns ≡ r) × (length f.parameters ≡ n)

-- ---- expressions

unfoldable mutual
  pub IsPlace : Around → PlaceTree → Type 0
  IsPlace a (tree.scalar t x) = IsObject a (scalar_kind t) x
  IsPlace a (tree.element t x at i) = IsArray a t x × IsValue a i

  pub IsValue : Around → ValueTree → Type 0
  IsValue a (tree.constant t z) = InType t z
  IsValue a (tree.read p) = IsPlace a p
  IsValue a (tree.assign at p e) = IsPlace a p × IsValue a e
  IsValue a (tree.update op at t p e) = (operands op ≡ 2) × IsPlace a p × IsValue a e
  IsValue a (tree.step op at t p prefix) = (operands op ≡ 2) × IsPlace a p
  IsValue a (tree.call t f n at es) = Takes (count es) (Some t) (slice_get a.unit.functions f) × AreValues a es
  IsValue a (tree.any t at) = Unit {0}
  IsValue a (tree.unary op at t e) = (operands op ≡ 1) × IsValue a e
  IsValue a (tree.convert t e) = IsValue a e
  IsValue a (tree.binary op at t x y) = (operands op ≡ 2) × IsValue a x × IsValue a y
  IsValue a (tree.and x y) = IsValue a x × IsValue a y
  IsValue a (tree.or x y) = IsValue a x × IsValue a y
  IsValue a (tree.conditional t c x y) = IsValue a c × IsValue a x × IsValue a y
  IsValue a (tree.then_value e v) = IsEffect a e × IsValue a v

  pub IsEffect : Around → EffectTree → Type 0
  IsEffect a (tree.unused v) = IsValue a v
  IsEffect a (tree.run f n at es) = Takes (count es) None (slice_get a.unit.functions f) × AreValues a es
  IsEffect a (tree.assume at v) = IsValue a v
  IsEffect a (tree.assert at v) = IsValue a v
  IsEffect a (tree.abort at) = Unit {0}
  IsEffect a (tree.then_effect x y) = IsEffect a x × IsEffect a y

  pub AreValues : Around → ValueTrees → Type 0
  AreValues a tree.no_values = Unit {0}
  AreValues a (tree.value_before e es) = IsValue a e × AreValues a es

abbrev pub IsValueIf : Around → Option ValueTree → Type 0
IsValueIf a None = Unit {0}
IsValueIf a (Some e) = IsValue a e

abbrev pub AreValuesIf : Around → Option ValueTrees → Type 0
AreValuesIf a None = Unit {0}
AreValuesIf a (Some es) = AreValues a es

abbrev pub IsEffectIf : Around → Option EffectTree → Type 0
IsEffectIf a None = Unit {0}
IsEffectIf a (Some e) = IsEffect a e

-- ---- declared objects

abbrev pub count_if : Option ValueTrees → ℕ
count_if None = 0
count_if (Some es) = count es

-- an array that has room for so many items (C99 6.7.5.2, 6.7.8)
abbrev pub HasRoom : List LocalTree → (i items : ℕ) → Type 0
HasRoom xs i m =
    (t : IntType) × (n : ℕ) × (kind_among xs i ≡ Some (array_kind t n)) × (m ≤ n) × (n ≤ length_limit) × (1 ≤ n)

-- The next object of its function, or one of the file. What it begins with stands in its scope (C99 6.2.1).
abbrev pub IsDeclared : Around → DeclaredTree → Type 0
IsDeclared a (tree.scalar_object i at e) =
    (i ≡ a.objects) × ((t : IntType) × (kind_among a.locals i ≡ Some (scalar_kind t))) × IsValueIf (behind 1 a) e
IsDeclared a (tree.array_object i at es) =
    (i ≡ a.objects) × HasRoom a.locals i (count_if es) × AreValuesIf (behind 1 a) es
IsDeclared a (tree.static_object n at) = n < length a.unit.objects
IsDeclared a (tree.hiding_constant x at) = (k : Kind) × IsObject a k x

abbrev pub AreDeclared : Around → List DeclaredTree → Type 0
AreDeclared a [] = Unit {0}
AreDeclared a (d ∷ ds) = IsDeclared a d × AreDeclared (behind (objects_in_declared d) a) ds

abbrev pub IsForStart : Around → ForStartTree → Type 0
IsForStart a (tree.declarations ds) = AreDeclared a ds
IsForStart a (tree.expression e) = IsEffectIf a e

-- ---- statements

-- how many labels the function has, and what it returns; of the innermost `switch` how many cases, and whether there is a default
pub record Marks : Type 0 where
  pub labels : ℕ
  pub returns : Option IntType
  pub cases : ℕ
  pub has_default : Bool

abbrev pub in_switch : ℕ → Bool → Marks → Marks
in_switch n b m = record { labels = m.labels; returns = m.returns; cases = n; has_default = b }

-- a value where the function returns one, and else none
abbrev pub IsReturned : Around → Option IntType → Option ValueTree → Type 0
IsReturned a None None = Unit {0}
IsReturned a None (Some e) = ⊥
IsReturned a (Some t) None = ⊥
IsReturned a (Some t) (Some e) = IsValue a e

unfoldable mutual
  pub IsStatement : Around → Marks → StatementTree → Type 0
  IsStatement a m (tree.block at is) = AreItems a m is
  IsStatement a m (tree.empty at) = Unit {0}
  IsStatement a m (tree.effect at e) = IsEffect a e
  IsStatement a m (tree.label at l s) = (l < m.labels) × IsStatement a m s
  IsStatement a m (tree.case at i s) = (i < m.cases) × IsStatement a m s
  IsStatement a m (tree.default at s) = (m.has_default ≡ true) × IsStatement a m s
  IsStatement a m (tree.if_then at c s) = IsValue a c × IsStatement a m s
  IsStatement a m (tree.if_else at c s r) = IsValue a c × IsStatement a m s × IsStatement (behind (objects_in s) a) m r
  IsStatement a m (tree.switch at t e zs b s) =
      IsValue a e × All (InType t) zs × IsStatement a (in_switch (length zs) b m) s
  IsStatement a m (tree.while at c s) = IsValue a c × IsStatement a m s
  IsStatement a m (tree.do_while at s c) = IsStatement a m s × IsValue a c
  IsStatement a m (tree.for_loop at start c e s) =
      let b = behind (objects_at_start start) a in
      IsForStart a start × IsValueIf b c × IsEffectIf b e × IsStatement b m s
  IsStatement a m (tree.goto at l) = l < m.labels
  IsStatement a m (tree.continue at) = Unit {0}
  IsStatement a m (tree.break at) = Unit {0}
  IsStatement a m (tree.return at e) = IsReturned a m.returns e

  pub AreItems : Around → Marks → ItemTrees → Type 0
  AreItems a m tree.no_items = Unit {0}
  AreItems a m (tree.declared_before d is) = IsDeclared a d × AreItems (behind (objects_in_declared d) a) m is
  AreItems a m (tree.statement_before s is) = IsStatement a m s × AreItems (behind (objects_in s) a) m is

-- ---- functions and units

-- the first objects are the parameters
abbrev pub AreParameters : List IntType → List LocalTree → Type 0
AreParameters [] xs = Unit {0}
AreParameters (t ∷ ts) [] = ⊥
AreParameters (t ∷ ts) (x ∷ xs) = (x.int_type ≡ t) × (x.length ≡ None) × AreParameters ts xs

-- calls stand in the trees in the order of the list, with their numbers in it
pub record IsBody (u : UnitTree) (f : FunctionTree) (b : BodyTree) : Type 0 where
  pub visible : b.visible ≤ length u.objects
  pub parameters : AreParameters f.parameters b.locals
  pub items : AreItems (record { unit = u; locals = b.locals; objects = length f.parameters })
      (record { labels = b.labels; returns = f.returns; cases = 0; has_default = false }) b.items
  pub calls : calls_in_items b.items ≡ numbered 0 b.calls

abbrev pub IsBodyIf : UnitTree → FunctionTree → Option BodyTree → Type 0
IsBodyIf u f None = Unit {0}
IsBodyIf u f (Some b) = IsBody u f b

-- numbers of the type, of an array no more than its elements, of which there is one at least
abbrev pub IsStart : IntType → StartTree → Type 0
IsStart t (tree.scalar_start z) = InType t z
IsStart t (tree.array_start n zs) = (length zs ≤ n) × All (InType t) zs × (1 ≤ n)

-- every tree of the unit agrees with what it names
pub record IsUnit (u : UnitTree) : Type 0 where
  pub objects : All (λ (x : FileObjectTree). IsStart x.int_type x.start) u.objects
  pub functions : All (λ (f : FunctionTree). IsBodyIf u f f.body) u.functions
