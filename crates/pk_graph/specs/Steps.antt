-- What a step over an edge does to a store.
use Rattle.std.specs.Prelude.{ℕ, nat_eq, Bool, true, false, not, ◌&&◌, if◌then◌else◌, ℤ, pos, int_le, int_lt, unsigned_abs, List, [], ◌∷◌, length, replicate, slice_index_or, slice_set, Result, Ok, Err}
use Rattle.std.specs.Ordering.{int_eq}
use Rattle.pk_ctypes.specs.declared.types.IntType.{IntType}
use Rattle.pk_ctypes.specs.declared.faults.Fault.{Fault}
use Rattle.pk_ctypes.specs.declared.faults.Fault.TheVariants as faults
use Rattle.pk_ctypes.specs.Types.{is_in_type, wrapped}
use Rattle.pk_ctypes.specs.Operators.{value_of}
use Rattle.pk_graph.specs.declared.trees.Site.{Site}
use Rattle.pk_graph.specs.Trees.{TreeOf, constant, variable, converted, unary, binary, InstrOf, Skip, Set, Havoc, Clear, Load, Store, Guard, Check}

-- what a variable holds: a scalar one number, an array one for each element
abbrev pub Numbers : Type 0
Numbers = List ℤ

abbrev pub number_at : Numbers → ℕ → ℤ
number_at zs i = slice_index_or zs i (pos 0)

-- how variables stand in a store
pub record Storing (V S : Type 0) : Type 0 where
  pub numbers : V → S → Numbers
  pub with_numbers : V → Numbers → S → S

-- a fault at an operation
pub record Failure : Type 0 where
  pub fault : Fault
  pub site : Site

abbrev pub failure : Fault → Site → Failure
failure f s = record { fault = f; site = s }

abbrev pub at_site : {A : Type 0} → Site → Result A Fault → Result A Failure
at_site s (Ok v) = Ok v
at_site s (Err f) = Err (failure f s)

-- goes on with a value, or stops with its fault
abbrev pub and_then : {A B : Type 0} → Result A Failure → (A → Result B Failure) → Result B Failure
and_then (Ok v) f = f v
and_then (Err e) f = Err e

-- The number that a tree has in a store, operands from left to right, or its first fault. An operator with one operand doesn't use the second.
abbrev pub tree_value : {V S : Type 0} → Storing V S → TreeOf V → S → Result ℤ Failure
tree_value m (constant t n) s = Ok n
tree_value m (variable x) s = Ok (number_at (m.numbers x s) 0)
tree_value m (converted t e) s = and_then (tree_value m e s) (λ v. Ok (wrapped t v))
tree_value m (unary op at t e) s = and_then (tree_value m e s) (λ v. at_site at (value_of op t v v))
tree_value m (binary op at t a b) s =
    and_then (tree_value m a s) (λ v. and_then (tree_value m b s) (λ w. at_site at (value_of op t v w)))

abbrev pub is_true : ℤ → Bool
is_true z = not (int_eq z (pos 0))

-- one of 0 to n - 1
abbrev pub is_index : ℕ → ℤ → Bool
is_index n i = int_le (pos 0) i && int_lt i (pos n)

-- the element's place, or the fault
abbrev pub indexed : Site → ℕ → ℤ → Result ℕ Failure
indexed at n i = if is_index n i then Ok (unsigned_abs i) else Err (failure faults.Index at)

abbrev pub all_in_type : IntType → Numbers → Bool
all_in_type t [] = true
all_in_type t (z ∷ zs) = is_in_type t z && all_in_type t zs

-- n numbers of the type
abbrev pub are_any : IntType → ℕ → Numbers → Bool
are_any t n zs = nat_eq (length zs) n && all_in_type t zs

-- what is after an instruction
pub data After (S : Type 0) : Type 0 where
  To : S → After S
  -- a guard doesn't pass
  Blocked : After S
  -- numbers have to be chosen: as many of the type
  Wants : IntType → ℕ → After S
  Faulted : Failure → After S

abbrev pub with_value : {A S : Type 0} → Result A Failure → (A → After S) → After S
with_value (Ok v) f = f v
with_value (Err e) f = Faulted e

abbrev pub passed : {S : Type 0} → Bool → Bool → S → After S
passed true true s = To s
passed true false s = Blocked
passed false true s = Blocked
passed false false s = To s

-- what an instruction does to a store, with the numbers that are chosen where some are
abbrev pub effect : {V S : Type 0} → Storing V S → Numbers → InstrOf V → S → After S
effect m ch Skip s = To s
effect m ch (Set x e) s = with_value (tree_value m e s) (λ v. To (m.with_numbers x (v ∷ []) s))
effect m ch (Havoc x t n) s = if are_any t n ch then To (m.with_numbers x ch s) else Wants t n
effect m ch (Clear a) s = To (m.with_numbers a.variable (replicate a.length (pos 0)) s)
effect m ch (Load x a at b i) s =
    with_value (and_then (tree_value m i s) (indexed at a.length)) (λ k.
    To (m.with_numbers x (number_at (m.numbers a.variable s) k ∷ []) s))
effect m ch (Store a at b i e) s =
    with_value (tree_value m i s) (λ z. with_value (tree_value m e s) (λ v. with_value (indexed at a.length z) (λ k.
    To (m.with_numbers a.variable (slice_set (m.numbers a.variable s) k v) s))))
effect m ch (Guard e b) s = with_value (tree_value m e s) (λ v. passed (is_true v) b s)
effect m ch (Check at e) s =
    with_value (tree_value m e s) (λ v. if is_true v then To s else Faulted (failure faults.Assert at))
