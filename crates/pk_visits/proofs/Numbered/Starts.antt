-- Where runs of a numbered graph begin, and where those of the graph over slots do.
use Rattle.std.proofs.Common.{◌≡◌, ℕ, zero, suc, ◌<◌, ◌-◌, List, [], ◌∷◌, length, refl, sym, ap, subst, arith, pos, slice_index_or, replicate}
use Rattle.pk_graph.specs.Kinds.{count_of}
use Rattle.pk_graph.specs.Graphs.{PathOf, VariableOf, number_start, no_variable}
use Rattle.pk_graph.specs.Steps.{Numbers, number_at}
use Rattle.pk_graph.specs.Stores.{Stored, numbers_of}
use Rattle.pk_draft.specs.Drafts.{DraftOf}
use Rattle.pk_number.specs.Numbering.{numbered}
use Rattle.pk_meaning.specs.Objects.{Object, Objects}
use Rattle.pk_meaning.specs.Objects as objects
use Rattle.pk_graph_step.specs.Beginnings.{BeginsWith, Begins}
use Rattle.pk_visits.proofs.Slots.{Slot, own, temporary, Memory, memory_numbers}
use Rattle.pk_visits.proofs.Numbered.Stores.{Naming, AsMuch, Mirrors}

-- the first n numbers that a function gives
listed : ℕ → (ℕ → Numbers) → Stored
listed zero F = []
listed (suc n) F = F 0 ∷ listed n (λ k. F (suc k))

listed_size : (n : ℕ) (F : ℕ → Numbers) → length (listed n F) ≡ n
unfolding listed
listed_size zero F = refl
listed_size (suc n) F = ap suc (listed_size n (λ k. F (suc k)))

listed_at : (n : ℕ) (F : ℕ → Numbers) (i : ℕ) → i < n → numbers_of (listed n F) i ≡ F i
unfolding listed
listed_at zero F i h = absurd (omega (arith, h))
listed_at (suc n) F zero h = refl
listed_at (suc n) F (suc i) h = listed_at n (λ k. F (suc k)) i (omega (arith, h))

-- no temporary holds anything but 0
abbrev pub first_memory : Objects → Memory
first_memory o = record { objects = o; temporaries = λ n. pos 0 }

-- Each variable of the draft is an object's, which begins with what the object holds, or begins with 0.
pub record StartsWith (f : Naming) (Made : Slot → Type 0) (d : DraftOf ℕ) (o : Objects) : Type 0 where
  pub slot_of : ℕ → Slot
  pub back : (x : Slot) → Made x → slot_of (f x) ≡ x
  pub below : (x : Slot) → Made x → f x < length d.made
  pub own_starts : (y : ℕ) (x : Object) → y < length d.made → slot_of y ≡ own x → BeginsWith (slice_index_or d.made y no_variable) (slice_index_or d.made y no_variable).start (objects.numbers_of x o)
  pub zero_starts : (y n : ℕ) → y < length d.made → slot_of y ≡ temporary n → (slice_index_or d.made y no_variable).start ≡ number_start []

abbrev first_numbers : Objects → VariableOf → Slot → Numbers
first_numbers o x (own y) = objects.numbers_of y o
first_numbers o x (temporary n) = replicate (count_of x.kind.length) (pos 0)

zero_first : (n : ℕ) → number_at (replicate n (pos 0)) 0 ≡ pos 0
zero_first zero = refl
zero_first (suc n) = refl

begins_so : (o : Objects) (v : VariableOf) (z : Slot) → ((x : Object) → z ≡ own x → BeginsWith v v.start (objects.numbers_of x o)) → ((n : ℕ) → z ≡ temporary n → v.start ≡ number_start [])
    → BeginsWith v v.start (first_numbers o v z)
begins_so o v (own x) h k = h x refl
begins_so o v (temporary n) h k =
    let all : count_of v.kind.length - 0 ≡ count_of v.kind.length = omega arith in
    subst (λ b. BeginsWith v b (replicate (count_of v.kind.length) (pos 0))) (sym (k n refl)) (ap (λ c. replicate c (pos 0)) (sym all))

mirrors_so : (o : Objects) (v : VariableOf) (x : Slot) → AsMuch x (memory_numbers x (first_memory o)) (first_numbers o v x)
mirrors_so o v (own y) = refl
mirrors_so o v (temporary n) = zero_first (count_of v.kind.length)

abbrev variable_in : DraftOf ℕ → ℕ → VariableOf
variable_in d y = slice_index_or d.made y no_variable

abbrev numbers_first : DraftOf ℕ → Objects → (ℕ → Slot) → ℕ → Numbers
numbers_first d o slot_of y = first_numbers o (variable_in d y) (slot_of y)

begins_first : (f : Naming) (M : Slot → Type 0) (paths : List PathOf) (d : DraftOf ℕ) (o : Objects) (h : StartsWith f M d o) → Begins (numbered paths d) (listed (length d.made) (numbers_first d o h.slot_of))
begins_first f M paths d o h = record {
  size = listed_size (length d.made) (numbers_first d o h.slot_of);
  each = λ y b. subst (BeginsWith (variable_in d y) (variable_in d y).start) (sym (listed_at (length d.made) (numbers_first d o h.slot_of) y b))
      (begins_so o (variable_in d y) (h.slot_of y) (λ x e. h.own_starts y x b e) (λ n e. h.zero_starts y n b e));
}

mirrors_first : (f : Naming) (M : Slot → Type 0) (d : DraftOf ℕ) (o : Objects) (h : StartsWith f M d o) → Mirrors f M (length d.made) (first_memory o) (listed (length d.made) (numbers_first d o h.slot_of))
mirrors_first f M d o h = record {
  size = listed_size (length d.made) (numbers_first d o h.slot_of);
  same = λ x i. subst (AsMuch x (memory_numbers x (first_memory o))) (sym (listed_at (length d.made) (numbers_first d o h.slot_of) (f x) (h.below x i)))
      (subst (λ z. AsMuch x (memory_numbers x (first_memory o)) (first_numbers o (variable_in d (f x)) z)) (sym (h.back x i)) (mirrors_so o (variable_in d (f x)) x));
}

-- A run of the numbered graph begins with a store that holds what the objects do.
pub first_store : (f : Naming) (M : Slot → Type 0) (paths : List PathOf) (d : DraftOf ℕ) (o : Objects) → StartsWith f M d o → (s : Stored) × Begins (numbered paths d) s × Mirrors f M (length d.made) (first_memory o) s
first_store f M paths d o h = (listed (length d.made) (numbers_first d o h.slot_of), begins_first f M paths d o h, mirrors_first f M d o h)
