-- Drafts over slots: the objects of a program and temporaries, and what they hold.
use Rattle.std.proofs.Common.{◌≡◌, ℕ, ◌+◌, ◌<◌, ◌≤◌, ◌⊎◌, List, [], ◌∷◌, ◌++◌, refl, inl, inr, length, nat_eq, if◌then◌else◌, ℤ}
use Rattle.std.specs.Prelude.{slice_index_or, slice_get, Some}
use Rattle.pk_graph.specs.declared.graphs.Scope.{Scope}
use Rattle.pk_graph.specs.Graphs.{VariableOf, no_variable}
use Rattle.pk_graph.specs.Trees.{TreeOf, InstrOf}
use Rattle.pk_graph.specs.Steps.{Numbers, number_at, Storing}
use Rattle.pk_draft.specs.declared.drafts.Label.{Label}
use Rattle.pk_draft.specs.declared.drafts.Region.{Region}
use Rattle.pk_draft.specs.declared.drafts.Size.{Size}
use Rattle.pk_draft.specs.Drafts.{Names, DraftOf, EdgeFrom, no_label, no_region}
use Rattle.pk_meaning.specs.Objects.{Object, file, local, result, Objects, numbers_of, with_numbers}

pub data Slot : Type 0 where
  own : Object → Slot
  temporary : ℕ → Slot

abbrev pub slots : Names Slot
slots = record { file = λ i. own (file i); object = λ k i x. own (local k i); result = λ k x. own (result k); temporary = λ x. temporary x }

abbrev pub Draft : Type 0
Draft = DraftOf Slot

abbrev pub SlotTree : Type 0
SlotTree = TreeOf Slot

abbrev pub Instr : Type 0
Instr = InstrOf Slot

abbrev pub Edge : Type 0
Edge = EdgeFrom Slot

abbrev pub edge : ℕ → Instr → ℕ → Edge
edge p i q = record { from = p; instr = i; to = q }

-- what the objects and the temporaries hold
pub record Memory : Type 0 where
  pub objects : Objects
  pub temporaries : ℕ → ℤ

abbrev pub memory_numbers : Slot → Memory → Numbers
memory_numbers (own x) m = numbers_of x m.objects
memory_numbers (temporary n) m = m.temporaries n ∷ []

abbrev pub with_memory : Slot → Numbers → Memory → Memory
with_memory (own x) zs m = record { objects = with_numbers x zs m.objects; temporaries = m.temporaries }
with_memory (temporary n) zs m = record { objects = m.objects; temporaries = λ k. if nat_eq n k then number_at zs 0 else m.temporaries k }

abbrev pub memory : Storing Slot Memory
memory = record { numbers = memory_numbers; with_numbers = with_memory }

-- ---- lists

abbrev pub Among : {A : Type 0} → A → List A → Type 0
Among x [] = ⊥
Among x (y ∷ ys) = (x ≡ y) ⊎ Among x ys

pub front_among : {A : Type 0} (xs ys : List A) (x : A) → Among x xs → Among x (xs ++ ys)
front_among [] ys x h = absurd h
front_among (y ∷ xs) ys x (inl e) = inl e
front_among (y ∷ xs) ys x (inr h) = inr (front_among xs ys x h)

pub last_among : {A : Type 0} (xs : List A) (x : A) → Among x (xs ++ x ∷ [])
last_among [] x = inl refl
last_among (y ∷ xs) x = inr (last_among xs x)

-- ---- what later work leaves as it is

abbrev pub label_at : List Label → ℕ → Label
label_at ls q = slice_index_or ls q no_label

abbrev pub region_at : List Region → ℕ → Region
region_at rs k = slice_index_or rs k no_region

abbrev pub made_at : List VariableOf → ℕ → VariableOf
made_at xs n = slice_index_or xs n no_variable

-- the variable of an object of the function at hand
abbrev pub object_at : List ℕ → ℕ → ℕ
object_at os i = slice_index_or os i 0

-- entries of scopes
abbrev pub Scoping : Type 0
Scoping = List Scope

-- each entry stands where it stood
abbrev pub Extends : Scoping → Scoping → Type 0
Extends ss us = (n : ℕ) (z : Scope) → slice_get ss n ≡ Some z → slice_get us n ≡ Some z

-- a region that takes so many of the points from p to q and of the variables from v to w
abbrev pub Takes : (Size → Type 0) → (p q v w : ℕ) → Region → Type 0
Takes C p q v w r = (s : Size) × C s × (p ≤ r.points) × (r.points + s.points ≤ q) × (v ≤ r.variables) × (r.variables + s.variables ≤ w)

-- the region with this size ends where the other begins, or before
abbrev pub Before : Size → Region → Region → Type 0
Before s r o = (r.points + s.points ≤ o.points) × (r.variables + s.variables ≤ o.variables)

-- two regions with such sizes don't overlap
abbrev pub Divided : (C D : Size → Type 0) → Region → Region → Type 0
Divided C D r o = (s : Size) × (z : Size) × C s × D z × (Before s r o ⊎ Before z o r)

-- Edges, points and variables are only added, scopes too, points keep their labels unless they are marks, the function's objects but some keep their variables; paths that are called take regions of what is added, which don't overlap, and all others keep theirs. What a point made here is goes over by R.
pub record KeepsBy (R : Label → Label → Type 0) (Mark Sets : ℕ → Type 0) (Called : ℕ → Size → Type 0) (es : List Edge) (ns : Names Slot) (v p : ℕ) (ls : List Label) (rs : List Region) (ss : Scoping) (h : Label) (xs : List VariableOf) (os : List ℕ) (fs : List Edge) (ms : Names Slot) (w q : ℕ) (ks : List Label) (ts : List Region) (us : Scoping) (i : Label) (ys : List VariableOf) (qs : List ℕ) : Type 0 where
  pub edges : (e : Edge) → Among e es → Among e fs
  pub names : ms ≡ ns
  pub variables : v ≤ w
  pub points : p ≤ q
  pub size : length ks ≡ length ls
  pub labels : (n : ℕ) → n < p → Mark n ⊎ (label_at ks n ≡ label_at ls n)
  pub beyond : (n : ℕ) → q ≤ n → Mark n ⊎ (label_at ks n ≡ label_at ls n)
  pub regions : (k : ℕ) → Takes (Called k) p q v w (region_at ts k) ⊎ (region_at ts k ≡ region_at rs k)
  pub apart : (j k : ℕ) → (j ≡ k → ⊥) → (region_at ts j ≡ region_at rs j) ⊎ (region_at ts k ≡ region_at rs k) ⊎ Divided (Called j) (Called k) (region_at ts j) (region_at ts k)
  pub paths : length ts ≡ length rs
  pub scopes : Extends ss us
  pub here : R h i
  pub many : length ys ≡ length xs
  pub made : (n : ℕ) → n < v → made_at ys n ≡ made_at xs n
  pub unmade : (n : ℕ) → w ≤ n → made_at ys n ≡ made_at xs n
  pub slots : length qs ≡ length os
  pub objects : (n : ℕ) → Sets n ⊎ (object_at qs n ≡ object_at os n)

abbrev pub Keeps : (R : Label → Label → Type 0) → (Mark Sets : ℕ → Type 0) → (Called : ℕ → Size → Type 0) → Draft → Draft → Type 0
Keeps R M S C d e = KeepsBy R M S C d.edges d.names d.variables d.points d.labels d.regions d.scopes d.here d.made d.objects e.edges e.names e.variables e.points e.labels e.regions e.scopes e.here e.made e.objects

abbrev pub Never : ℕ → Type 0
Never n = ⊥

-- no path is called
abbrev pub Uncalled : ℕ → Size → Type 0
Uncalled k s = ⊥

abbrev pub Same : Label → Label → Type 0
Same h i = i ≡ h

-- of an expression, in which these paths are called
abbrev pub Grows : (Called : ℕ → Size → Type 0) → Draft → Draft → Type 0
Grows C d e = Keeps Same Never Never C d e
