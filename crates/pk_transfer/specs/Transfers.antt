-- What is known after an instruction.
use Rattle.std.specs.Prelude.{◌≡◌, ℕ, zero, suc, ◌-◌, Bool, true, false, ◌||◌, if◌then◌else◌, pos, int_lt, int_le, [], Option, Some, None}
use Rattle.pk_graph.specs.Trees.{ArrayOf, InstrOf, Skip, Set, Havoc, Clear, Load, Store, Guard, Check}
use Rattle.pk_graph.specs.Kinds.{Kinds, IsTypedInstr}
use Rattle.pk_graph.specs.Steps.{Numbers, To, effect}
use Rattle.pk_graph.specs.Stores.{Stored, storing, IsStore}
use Rattle.pk_value.specs.Known.{Known, any_of, exactly, joined, is_within}
use Rattle.pk_value.specs.Values.{is_constant}
use Rattle.pk_state.specs.Layouts.{Layout, IsLayout, is_spread, slot_of}
use Rattle.pk_state.specs.Facts.{Facts, AreFactsIf}
use Rattle.pk_state.specs.Reduced.{reduced}
use Rattle.pk_state.specs.Members.{Member}
use Rattle.pk_state.specs.Changes.{known_in, with_known}
use Rattle.pk_transfer.specs.Slots.{spread}
use Rattle.pk_transfer.specs.Trees.{known_with, tree_known, IsOver}
use Rattle.pk_transfer.specs.Assignments.{with_form, with_known_if, set_in}
use Rattle.pk_transfer.specs.Assumptions.{guard_in}

-- a variable gets numbers that are known so, of which no octagon says anything
abbrev pub forgotten_in : Layout → Option Facts → ℕ → Option Known → Option Facts
forgotten_in y f x k = with_known_if (with_form y f x None []) x k

-- no index of 0 to n - 1
abbrev pub misses : ℕ → Known → Bool
misses n k = int_lt k.range.hi (pos 0) || int_le (pos n) k.range.lo

-- goes on with what is known of an index, where it may be one
abbrev pub at_index : ℕ → Option Known → (Known → Option Facts) → Option Facts
at_index n None f = None
at_index n (Some k) f = if misses n k then None else f k

-- ---- a variable each of whose numbers has a slot

-- whether an index that is known so may be i
abbrev pub may_be : Known → ℕ → Bool
may_be k i = is_within (exactly (pos i)) k

-- whether it may be one of 0 to n - 1
abbrev pub may_be_below : Known → ℕ → Bool
may_be_below k zero = false
may_be_below k (suc i) = may_be_below k i || may_be k i

abbrev pub either : Option Known → Option Known → Option Known
either None v = v
either (Some k) None = Some k
either (Some k) (Some v) = Some (joined k v)

-- what is known of the element at the index, if it is one of the first n
abbrev pub known_below : Layout → Option Facts → ℕ → Known → ℕ → Option Known
known_below y f x k zero = None
known_below y f x k (suc i) =
    if may_be k i then either (known_below y f x k i) (known_in f (slot_of y x i)) else known_below y f x k i

-- the numbers of a slot get what is known, surely or maybe
abbrev pub stored_at : Option Facts → ℕ → Bool → Known → Option Facts
stored_at f j surely v = with_known_if f j (known_with (known_in f j) (λ k. Some (if surely then v else joined k v)))

-- the element at the index does, if it is one of the first n: surely where the index is constant
abbrev pub stored_below : Layout → Option Facts → ℕ → Known → Known → ℕ → Option Facts
stored_below y f x k v zero = f
stored_below y f x k v (suc i) =
    if may_be k i then stored_at (stored_below y f x k v i) (slot_of y x i) (is_constant k) v
    else stored_below y f x k v i

-- a variable's own slot, and the n behind it, get what is known
abbrev pub known_each : Layout → Option Facts → ℕ → Known → ℕ → Option Facts
known_each y f x k zero = with_known f x k
known_each y f x k (suc i) = with_known (known_each y f x k i) (slot_of y x (suc i)) k

-- ---- instructions

-- the n numbers of a variable are known so
abbrev pub all_known : Layout → Option Facts → ℕ → ℕ → Known → Option Facts
all_known y f x n k = if is_spread y x then known_each y f x k (n - 1) else with_known f x k

-- so are those that it gets, and no octagon says anything of them
abbrev pub all_forgotten : Layout → Option Facts → ℕ → ℕ → Known → Option Facts
all_forgotten y f x n k = if is_spread y x then known_each y f x k (n - 1) else forgotten_in y f x (Some k)

-- what is known of an array's element at an index
abbrev pub loaded : Layout → Option Facts → ArrayOf ℕ → Known → Option Known
loaded y f a k = if is_spread y a.variable then known_below y f a.variable k a.length else known_in f a.variable

-- An array's element at an index gets what is known. Where no element of a small array may be there, no store is left.
abbrev pub stored : Layout → Option Facts → ArrayOf ℕ → Known → Option Known → Option Facts
stored y f a k None = None
stored y f a k (Some v) =
    if is_spread y a.variable then
    (if may_be_below k a.length then stored_below y f a.variable k v a.length else None)
    else stored_at f a.variable false v

-- An instruction, on a reduced state.
abbrev pub applied : Layout → Option Facts → InstrOf ℕ → Option Facts
applied y f Skip = f
applied y f (Set x e) = set_in y f x e
applied y f (Havoc x t n) = all_forgotten y f x n (any_of t)
applied y f (Clear a) = all_known y f a.variable a.length (exactly (pos 0))
applied y f (Load x a s b i) =
    at_index a.length (tree_known (known_in f) i) (λ k. forgotten_in y f x (loaded y f a k))
applied y f (Store a s b i e) =
    at_index a.length (tree_known (known_in f) i) (λ k. stored y f a k (tree_known (known_in f) e))
applied y f (Guard e b) = guard_in y f e b
applied y f (Check s e) = guard_in y f e true

-- reduced before and after
abbrev pub transferred : Layout → Option Facts → InstrOf ℕ → Option Facts
transferred y f i = reduced y (applied y (reduced y f) i)

-- Each store to which an instruction takes a store of f is one of g, slot by slot.
abbrev pub IsKept : Layout → Option Facts → InstrOf ℕ → Option Facts → Type 0
IsKept y f i g =
    (ks : Kinds) (s t : Stored) (ch : Numbers) → IsOver ks y → IsStore ks s → Member y f (spread s) →
    IsTypedInstr ks i → effect storing ch i s ≡ To t → Member y g (spread t)

-- an instruction that is typed in a table of variables, and a layout over that table
pub record IsInstrOver (y : Layout) (i : InstrOf ℕ) : Type 0 where
  pub kinds : Kinds
  pub over : IsOver kinds y
  pub typed : IsTypedInstr kinds i

-- Where an instruction takes a store of a state to another, that is one of the state after it.
abbrev pub TransfersKeep : Type 0
TransfersKeep =
    (ks : Kinds) (y : Layout) (f : Option Facts) (s t : Stored) (ch : Numbers) (i : InstrOf ℕ) → IsOver ks y →
    IsStore ks s → IsLayout y → AreFactsIf y f → Member y f (spread s) → IsTypedInstr ks i →
    effect storing ch i s ≡ To t → Member y (applied y f i) (spread t)
