-- What objects and slots hold where one is written.
use Rattle.std.proofs.Common.{◌≡◌, ℕ, zero, suc, ◌<◌, ◌⊎◌, List, [], ◌∷◌, length, true, false, if◌then◌else◌, nat_eq, refl, sym, ap, ◌∙◌, subst, inl, inr, arith, ◌≢◌, ℤ}
use Rattle.std.specs.Prelude.{slice_index_or, slice_set, Ok}
use Rattle.std.proofs.lemmas.List.{get_or-set_other}
use Rattle.std.proofs.lemmas.Bool.{eq-eqb, ne_eqb}
use Rattle.pk_ctypes.specs.Types.{wrapped}
use Rattle.pk_ctypes.specs.Operators.{value_of}
use Rattle.pk_graph.specs.Kinds.{count_of, Kind}
use Rattle.pk_graph.specs.Trees.{constant, variable, converted, unary, binary}
use Rattle.pk_graph.specs.Steps.{Numbers, number_at, tree_value, and_then, at_site, all_in_type}
use Rattle.pk_meaning.specs.Objects.{Object, file, local, result, Objects, locals_of, numbers_of, with_numbers}
use Rattle.pk_meaning.specs.Programs.{Program}
use Rattle.pk_visits.proofs.Slots.{Slot, own, temporary, Memory, memory, memory_numbers, with_memory, SlotTree}
use Rattle.pk_visits.proofs.Stands.{IsApart, AreApart, Held, Means, HasKind, FitsObjects}

-- ---- lists

-- an element that is written, if there is one
pub written_at : {A : Type 0} (xs : List A) (i : ℕ) (y d : A) → (slice_index_or (slice_set xs i y) i d ≡ y) ⊎ (slice_index_or (slice_set xs i y) i d ≡ slice_index_or xs i d)
written_at [] i y d = inr refl
written_at (x ∷ xs) zero y d = inl refl
written_at (x ∷ xs) (suc i) y d = written_at xs i y d

pub written_in : {A : Type 0} (xs : List (List A)) (i : ℕ) (y : List A) → 0 < length (slice_index_or xs i []) → slice_index_or (slice_set xs i y) i [] ≡ y
written_in [] i y h = absurd (omega (arith, h))
written_in (x ∷ xs) zero y h = refl
written_in (x ∷ xs) (suc i) y h = written_in xs i y h

-- a list of lists, where an element of an element is written
nested_other : {A : Type 0} (xs : List (List (List A))) (k i j : ℕ) (y : List A) → j ≢ i
    → slice_index_or (slice_index_or (slice_set xs k (slice_set (slice_index_or xs k []) i y)) k []) j [] ≡ slice_index_or (slice_index_or xs k []) j []
nested_other [] k i j y h = refl
nested_other (x ∷ xs) zero i j y h = get_or-set_other x i j y [] h
nested_other (x ∷ xs) (suc k) i j y h = nested_other xs k i j y h

nested_in : {A : Type 0} (xs : List (List (List A))) (k i : ℕ) (y : List A) → 0 < length (slice_index_or (slice_index_or xs k []) i [])
    → slice_index_or (slice_index_or (slice_set xs k (slice_set (slice_index_or xs k []) i y)) k []) i [] ≡ y
nested_in [] k i y h = absurd (omega (arith, h))
nested_in (x ∷ xs) zero i y h = written_in x i y h
nested_in (x ∷ xs) (suc k) i y h = nested_in xs k i y h

nested_at : {A : Type 0} (xs : List (List (List A))) (k i : ℕ) (y : List A)
    → (slice_index_or (slice_index_or (slice_set xs k (slice_set (slice_index_or xs k []) i y)) k []) i [] ≡ y)
    ⊎ (slice_index_or (slice_index_or (slice_set xs k (slice_set (slice_index_or xs k []) i y)) k []) i [] ≡ slice_index_or (slice_index_or xs k []) i [])
nested_at [] k i y = inr refl
nested_at (x ∷ xs) zero i y = written_at x i y []
nested_at (x ∷ xs) (suc k) i y = nested_at xs k i y

-- ---- objects

pub decided : (m n : ℕ) → (m ≡ n) ⊎ (m ≢ n)
decided zero zero = inl refl
decided zero (suc n) = inr (λ e. absurd (omega (arith, e)))
decided (suc m) zero = inr (λ e. absurd (omega (arith, e)))
decided (suc m) (suc n) = more (decided m n) where
  more : (m ≡ n) ⊎ (m ≢ n) → (suc m ≡ suc n) ⊎ (suc m ≢ suc n)
  more (inl e) = inl (ap suc e)
  more (inr h) = inr (λ e. h (omega (arith, e)))

abbrev is_file : Object → Type 0
is_file (file i) = Unit {0}
is_file (local k i) = ⊥
is_file (result k) = ⊥

abbrev is_local : Object → Type 0
is_local (file i) = ⊥
is_local (local k i) = Unit {0}
is_local (result k) = ⊥

abbrev number_in : Object → ℕ
number_in (file i) = i
number_in (local k i) = i
number_in (result k) = 0

abbrev path_in : Object → ℕ
path_in (file i) = 0
path_in (local k i) = k
path_in (result k) = k

-- an object keeps what it holds where another one is written
pub other_object : (x y : Object) (zs : Numbers) (s : Objects) → (x ≡ y → ⊥) → numbers_of y (with_numbers x zs s) ≡ numbers_of y s
other_object (file i) (file j) zs s h = get_or-set_other s.files i j zs [] (λ e. h (ap file (sym e)))
other_object (file i) (local k j) zs s h = refl
other_object (file i) (result k) zs s h = refl
other_object (local k i) (file j) zs s h = refl
other_object (local k i) (local m j) zs s h = by (decided m k) where
  by : (m ≡ k) ⊎ (m ≢ k) → numbers_of (local m j) (with_numbers (local k i) zs s) ≡ numbers_of (local m j) s
  by (inl e) = subst (λ n. numbers_of (local n j) (with_numbers (local k i) zs s) ≡ numbers_of (local n j) s) (sym e) (nested_other s.locals k i j zs (λ f. h (subst (λ n. local k i ≡ local n j) (sym e) (ap (local k) (sym f)))))
  by (inr n) = ap (λ row. slice_index_or row j []) (get_or-set_other s.locals k m (slice_set (locals_of s k) i zs) [] n)
other_object (local k i) (result m) zs s h = refl
other_object (result k) (file j) zs s h = refl
other_object (result k) (local m j) zs s h = refl
other_object (result k) (result m) zs s h = get_or-set_other s.results k m zs [] (λ e. h (ap result (sym e)))

-- one that is written, if it is there
pub same_object : (x : Object) (zs : Numbers) (s : Objects) → 0 < length (numbers_of x s) → numbers_of x (with_numbers x zs s) ≡ zs
same_object (file i) zs s h = written_in s.files i zs h
same_object (local k i) zs s h = nested_in s.locals k i zs h
same_object (result k) zs s h = written_in s.results k zs h

either_object : (x : Object) (zs : Numbers) (s : Objects) → (numbers_of x (with_numbers x zs s) ≡ zs) ⊎ (numbers_of x (with_numbers x zs s) ≡ numbers_of x s)
either_object (file i) zs s = written_at s.files i zs []
either_object (local k i) zs s = nested_at s.locals k i zs
either_object (result k) zs s = written_at s.results k zs []

decided_object : (x y : Object) → (x ≡ y) ⊎ (x ≡ y → ⊥)
decided_object (file i) (file j) = by (decided i j) where
  by : (i ≡ j) ⊎ (i ≢ j) → (file i ≡ file j) ⊎ (file i ≡ file j → ⊥)
  by (inl e) = inl (ap file e)
  by (inr h) = inr (λ e. h (ap number_in e))
decided_object (file i) (local m j) = inr (λ e. subst is_file e tt)
decided_object (file i) (result m) = inr (λ e. subst is_file e tt)
decided_object (local k i) (file j) = inr (λ e. subst is_local e tt)
decided_object (local k i) (local m j) = by (decided k m) (decided i j) where
  by : (k ≡ m) ⊎ (k ≢ m) → (i ≡ j) ⊎ (i ≢ j) → (local k i ≡ local m j) ⊎ (local k i ≡ local m j → ⊥)
  by (inl e) (inl f) = inl (ap (λ n. local n i) e ∙ ap (local m) f)
  by (inl e) (inr h) = inr (λ f. h (ap number_in f))
  by (inr h) f = inr (λ e. h (ap path_in e))
decided_object (local k i) (result m) = inr (λ e. subst is_local e tt)
decided_object (result k) (file j) = inr (λ e. absurd (subst is_file (sym e) tt))
decided_object (result k) (local m j) = inr (λ e. absurd (subst is_local (sym e) tt))
decided_object (result k) (result m) = by (decided k m) where
  by : (k ≡ m) ⊎ (k ≢ m) → (result k ≡ result m) ⊎ (result k ≡ result m → ⊥)
  by (inl e) = inl (ap result e)
  by (inr h) = inr (λ e. h (ap path_in e))

-- numbers that a kind of object may hold
abbrev pub Fitting : Kind → Numbers → Type 0
Fitting n zs = (length zs ≡ count_of n.length) × (all_in_type n.int_type zs ≡ true)

pub fits_written : (p : Program) (x : Object) (zs : Numbers) (s : Objects) → ((n : Kind) → HasKind p x n → Fitting n zs) → FitsObjects p s → FitsObjects p (with_numbers x zs s)
fits_written p x zs s a f y n h = by (decided_object x y) where
  same : (numbers_of x (with_numbers x zs s) ≡ zs) ⊎ (numbers_of x (with_numbers x zs s) ≡ numbers_of x s) → HasKind p x n → Fitting n (numbers_of x (with_numbers x zs s))
  same (inl e) k = subst (Fitting n) (sym e) (a n k)
  same (inr e) k = subst (Fitting n) (sym e) (f x n k)

  by : (x ≡ y) ⊎ (x ≡ y → ⊥) → Fitting n (numbers_of y (with_numbers x zs s))
  by (inl e) = subst (λ z. HasKind p z n → Fitting n (numbers_of z (with_numbers x zs s))) e (same (either_object x zs s)) h
  by (inr k) = subst (Fitting n) (sym (other_object x y zs s k)) (f y n h)

-- ---- slots

same_test : (n : ℕ) → nat_eq n n ≡ true
same_test n = eq-eqb n n refl

other_test : (m n : ℕ) → m ≢ n → nat_eq m n ≡ false
other_test m n h = ne_eqb m n h

-- a slot keeps its numbers where another is written
pub slot_other : (x y : Slot) (zs : Numbers) (m : Memory) → (x ≡ y → ⊥) → memory_numbers y (with_memory x zs m) ≡ memory_numbers y m
slot_other (own x) (own y) zs m h = other_object x y zs m.objects (λ e. h (ap own e))
slot_other (own x) (temporary n) zs m h = refl
slot_other (temporary k) (own y) zs m h = refl
slot_other (temporary k) (temporary n) zs m h =
    ap (λ b. (if b then number_at zs 0 else m.temporaries n) ∷ []) (other_test k n (λ e. h (ap temporary e)))

-- a tree keeps its value where a slot is written that it doesn't read
pub apart_value : (x : Slot) (zs : Numbers) (m : Memory) (e : SlotTree) → IsApart x e → tree_value memory e (with_memory x zs m) ≡ tree_value memory e m
apart_value x zs m (constant t z) h = refl
apart_value x zs m (variable y) h = ap (λ ns. Ok (number_at ns 0)) (slot_other x y zs m h)
apart_value x zs m (converted t e) h = ap (λ r. and_then r (λ v. Ok (wrapped t v))) (apart_value x zs m e h)
apart_value x zs m (unary op s t e) h = ap (λ r. and_then r (λ v. at_site s (value_of op t v v))) (apart_value x zs m e h)
apart_value x zs m (binary op s t a b) h =
    ap (λ r. and_then r (λ v. and_then (tree_value memory b (with_memory x zs m)) (λ w. at_site s (value_of op t v w)))) (apart_value x zs m a h.0)
    ∙ ap (λ r. and_then (tree_value memory a m) (λ v. and_then r (λ w. at_site s (value_of op t v w)))) (apart_value x zs m b h.1)

pub means_apart : (x : Slot) (zs : Numbers) (m : Memory) (hs : List Held) (vs : Numbers) → AreApart x hs → Means m hs vs → Means (with_memory x zs m) hs vs
means_apart x zs m [] [] a k = tt
means_apart x zs m [] (v ∷ vs) a k = absurd k
means_apart x zs m (h ∷ hs) [] a k = absurd k
means_apart x zs m (h ∷ hs) (v ∷ vs) a k = (apart_value x zs m h.tree a.0 ∙ k.0, k.1, means_apart x zs m hs vs a.1 k.2, k.3)

-- a temporary that was written has that value, and so has an object
pub temporary_value : (n : ℕ) (v : ℤ) (m : Memory) → tree_value memory (variable (temporary n)) (with_memory (temporary n) (v ∷ []) m) ≡ Ok v
temporary_value n v m = ap (λ b. Ok (if b then v else m.temporaries n)) (same_test n)

pub own_value : (x : Object) (v : ℤ) (m : Memory) → 0 < length (numbers_of x m.objects) → tree_value memory (variable (own x)) (with_memory (own x) (v ∷ []) m) ≡ Ok v
own_value x v m h = ap (λ ns. Ok (number_at ns 0)) (same_object x (v ∷ []) m.objects h)
