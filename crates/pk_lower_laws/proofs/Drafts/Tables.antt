-- Trees and instructions over variables that are named by whatever names: which variables are there, and of which kind each is.
use Rattle.std.proofs.Common.{◌≡◌, ℕ, ◌<◌, length, Some, None, refl, subst}
use Rattle.pk_ctypes.specs.declared.types.IntType.{IntType}
use Rattle.pk_ctypes.specs.Types.{InType, Represents}
use Rattle.pk_ctypes.specs.Operators.{result_type}
use Rattle.pk_graph.specs.Kinds as numbered
use Rattle.pk_graph.specs.Kinds.{Kind, Kinds, kind_at, count_of, IsUnary, IsRight}
use Rattle.pk_graph.specs.Trees.{TreeOf, constant, variable, converted, unary, binary, ArrayOf, InstrOf, Skip, Set, Havoc, Clear, Load, Store, Guard, Check}
use Rattle.pk_draft.specs.Drafts.{Names, by_number}

pub record Table : Type 1 where
  pub Variable : Type 0
  pub names : Names Variable
  pub is_there : Variable → Type 0
  pub kind : Variable → Kind

abbrev pub type_at : (t : Table) → t.Variable → IntType
type_at t x = (t.kind x).int_type

abbrev pub type_of : (t : Table) → TreeOf t.Variable → IntType
type_of t (constant u n) = u
type_of t (variable x) = type_at t x
type_of t (converted u e) = u
type_of t (unary op s u e) = result_type op u
type_of t (binary op s u a b) = result_type op u

pub record IsScalar (t : Table) (x : t.Variable) : Type 0 where
  pub there : t.is_there x
  pub scalar : (t.kind x).length ≡ None

pub record IsArray (t : Table) (a : ArrayOf t.Variable) : Type 0 where
  pub there : t.is_there a.variable
  pub array : (t.kind a.variable).length ≡ Some a.length

abbrev pub IsTyped : (t : Table) → TreeOf t.Variable → Type 0
IsTyped t (constant u n) = InType u n
IsTyped t (variable x) = IsScalar t x
IsTyped t (converted u e) = IsTyped t e
IsTyped t (unary op s u e) = IsUnary op × IsTyped t e × Represents u (type_of t e)
IsTyped t (binary op s u a b) = IsTyped t a × IsTyped t b × Represents u (type_of t a) × IsRight op u (type_of t b)

pub record IsOfType (t : Table) (u : IntType) (e : TreeOf t.Variable) : Type 0 where
  pub typed : IsTyped t e
  pub fits : Represents u (type_of t e)

abbrev pub IsTypedInstr : (t : Table) → InstrOf t.Variable → Type 0
IsTypedInstr t Skip = Unit {0}
IsTypedInstr t (Set x e) = IsScalar t x × IsOfType t (type_at t x) e
IsTypedInstr t (Havoc x u n) = t.is_there x × (type_at t x ≡ u) × (count_of (t.kind x).length ≡ n)
IsTypedInstr t (Clear a) = IsArray t a
IsTypedInstr t (Load x a s b i) = IsScalar t x × IsArray t a × (type_at t x ≡ type_at t a.variable) × IsTyped t i
IsTypedInstr t (Store a s b i e) = IsArray t a × IsTyped t i × IsOfType t (type_at t a.variable) e
IsTypedInstr t (Guard e b) = IsTyped t e
IsTypedInstr t (Check s e) = IsTyped t e

-- ---- variables by their numbers

abbrev pub numbers : Kinds → Table
numbers ks = record { Variable = ℕ; names = by_number; is_there = λ x. x < length ks; kind = kind_at ks }

same_type : (ks : Kinds) (e : TreeOf ℕ) → type_of (numbers ks) e ≡ numbered.type_of ks e
same_type ks (constant t n) = refl
same_type ks (variable x) = refl
same_type ks (converted t e) = refl
same_type ks (unary op s t e) = refl
same_type ks (binary op s t a b) = refl

numbered_scalar : (ks : Kinds) (x : ℕ) → IsScalar (numbers ks) x → numbered.IsScalar ks x
numbered_scalar ks x h = record { there = h.there; scalar = h.scalar }

numbered_array : (ks : Kinds) (a : ArrayOf ℕ) → IsArray (numbers ks) a → numbered.IsArray ks a
numbered_array ks a h = record { there = h.there; array = h.array }

numbered_tree : (ks : Kinds) (e : TreeOf ℕ) → IsTyped (numbers ks) e → numbered.IsTyped ks e
numbered_tree ks (constant t n) h = h
numbered_tree ks (variable x) h = numbered_scalar ks x h
numbered_tree ks (converted t e) h = numbered_tree ks e h
numbered_tree ks (unary op s t e) h = (h.0, numbered_tree ks e h.1, subst (Represents t) (same_type ks e) h.2)
numbered_tree ks (binary op s t a b) h = (numbered_tree ks a h.0, numbered_tree ks b h.1, subst (Represents t) (same_type ks a) h.2, subst (IsRight op t) (same_type ks b) h.3)

numbered_of : (ks : Kinds) (t : IntType) (e : TreeOf ℕ) → IsOfType (numbers ks) t e → numbered.IsOfType ks t e
numbered_of ks t e h = record { typed = numbered_tree ks e h.typed; fits = subst (Represents t) (same_type ks e) h.fits }

pub numbered_instr : (ks : Kinds) (i : InstrOf ℕ) → IsTypedInstr (numbers ks) i → numbered.IsTypedInstr ks i
numbered_instr ks Skip h = tt
numbered_instr ks (Set x e) h = (numbered_scalar ks x h.0, numbered_of ks (numbered.type_at ks x) e h.1)
numbered_instr ks (Havoc x t n) h = h
numbered_instr ks (Clear a) h = numbered_array ks a h
numbered_instr ks (Load x a s b i) h = (numbered_scalar ks x h.0, numbered_array ks a h.1, h.2, numbered_tree ks i h.3)
numbered_instr ks (Store a s b i e) h = (numbered_array ks a h.0, numbered_tree ks i h.1, numbered_of ks (numbered.type_at ks a.variable) e h.2)
numbered_instr ks (Guard e b) h = numbered_tree ks e h
numbered_instr ks (Check s e) h = numbered_tree ks e h
