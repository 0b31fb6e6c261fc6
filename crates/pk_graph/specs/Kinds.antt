-- Trees and instructions that agree with a table of the variables.
use Rattle.std.specs.Prelude.{◌≡◌, ℕ, ◌<◌, List, length, slice_index_or, Option, Some, None}
use Rattle.pk_ctypes.specs.declared.types.IntType.{IntType}
use Rattle.pk_ctypes.specs.declared.types.IntType.TheVariants.{Int}
use Rattle.pk_ctypes.specs.declared.types.Op.{Op}
use Rattle.pk_ctypes.specs.Classes.{OperatorClass, arithmetic, shift, comparison, negation, class_of}
use Rattle.pk_ctypes.specs.Classes as classes
use Rattle.pk_ctypes.specs.Types.{InType, Represents}
use Rattle.pk_ctypes.specs.Operators.{result_type}
use Rattle.pk_graph.specs.Trees.{TreeOf, constant, variable, converted, unary, binary, ArrayOf, InstrOf, Skip, Set, Havoc, Clear, Load, Store, Guard, Check}

-- what is known of a variable before any run: its type, and the number of elements of an array; a scalar has none
pub record Kind : Type 0 where
  pub int_type : IntType
  pub length : Option ℕ

abbrev pub scalar_kind : IntType → Kind
scalar_kind t = record { int_type = t; length = None }

abbrev pub array_kind : IntType → ℕ → Kind
array_kind t n = record { int_type = t; length = Some n }

abbrev pub Kinds : Type 0
Kinds = List Kind

abbrev pub no_kind : Kind
no_kind = record { int_type = Int; length = None }

abbrev pub kind_at : Kinds → ℕ → Kind
kind_at ks x = slice_index_or ks x no_kind

abbrev pub type_at : Kinds → ℕ → IntType
type_at ks x = (kind_at ks x).int_type

-- how many numbers a variable has
abbrev pub count_of : Option ℕ → ℕ
count_of None = 1
count_of (Some n) = n

abbrev pub count_at : Kinds → ℕ → ℕ
count_at ks x = count_of (kind_at ks x).length

-- the type of a tree's value
abbrev pub type_of : Kinds → TreeOf ℕ → IntType
type_of ks (constant t n) = t
type_of ks (variable x) = type_at ks x
type_of ks (converted t e) = t
type_of ks (unary op s t e) = result_type op t
type_of ks (binary op s t a b) = result_type op t

pub record IsScalar (ks : Kinds) (x : ℕ) : Type 0 where
  pub there : x < length ks
  pub scalar : (kind_at ks x).length ≡ None

pub record IsArray (ks : Kinds) (a : ArrayOf ℕ) : Type 0 where
  pub there : a.variable < length ks
  pub array : (kind_at ks a.variable).length ≡ Some a.length

-- operators with one operand
abbrev pub IsOfOne : OperatorClass → Type 0
IsOfOne arithmetic = ⊥
IsOfOne shift = ⊥
IsOfOne comparison = ⊥
IsOfOne classes.unary = Unit {0}
IsOfOne negation = Unit {0}

abbrev pub IsUnary : Op → Type 0
IsUnary op = IsOfOne (class_of op)

-- the right operand's numbers are numbers of the type; a shift's count has a type of its own
abbrev pub IsRightType : OperatorClass → IntType → IntType → Type 0
IsRightType arithmetic t u = Represents t u
IsRightType shift t u = Unit {0}
IsRightType comparison t u = Represents t u
IsRightType classes.unary t u = ⊥
IsRightType negation t u = ⊥

abbrev pub IsRight : Op → IntType → IntType → Type 0
IsRight op t u = IsRightType (class_of op) t u

-- each variable is a scalar of the table, each constant lies in its type, and each operand's numbers are numbers of its operator's type
abbrev pub IsTyped : Kinds → TreeOf ℕ → Type 0
IsTyped ks (constant t n) = InType t n
IsTyped ks (variable x) = IsScalar ks x
IsTyped ks (converted t e) = IsTyped ks e
IsTyped ks (unary op s t e) = IsUnary op × IsTyped ks e × Represents t (type_of ks e)
IsTyped ks (binary op s t a b) = IsTyped ks a × IsTyped ks b × Represents t (type_of ks a) × IsRight op t (type_of ks b)

-- a tree whose numbers are numbers of a type
pub record IsOfType (ks : Kinds) (t : IntType) (e : TreeOf ℕ) : Type 0 where
  pub typed : IsTyped ks e
  pub fits : Represents t (type_of ks e)

-- an instruction whose trees are typed, whose indices are of arrays and whose operands are scalars; what is written has numbers of the type of what it is written to
abbrev pub IsTypedInstr : Kinds → InstrOf ℕ → Type 0
IsTypedInstr ks Skip = Unit {0}
IsTypedInstr ks (Set x e) = IsScalar ks x × IsOfType ks (type_at ks x) e
IsTypedInstr ks (Havoc x t n) = (x < length ks) × (type_at ks x ≡ t) × (count_at ks x ≡ n)
IsTypedInstr ks (Clear a) = IsArray ks a
IsTypedInstr ks (Load x a s b i) = IsScalar ks x × IsArray ks a × (type_at ks x ≡ type_at ks a.variable) × IsTyped ks i
IsTypedInstr ks (Store a s b i e) = IsArray ks a × IsTyped ks i × IsOfType ks (type_at ks a.variable) e
IsTypedInstr ks (Guard e b) = IsTyped ks e
IsTypedInstr ks (Check s e) = IsTyped ks e
