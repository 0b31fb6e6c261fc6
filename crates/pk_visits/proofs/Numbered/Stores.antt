-- Trees and instructions over slots, and the same ones over numbers: they do the same to a memory and to a store that holds as much.
use Rattle.std.proofs.Common.{◌≡◌, ℕ, zero, suc, ◌<◌, ◌⊎◌, [], ◌∷◌, length, Bool, true, false, nat_eq, if◌then◌else◌, refl, sym, ap, ◌∙◌, subst, inl, inr, arith, pos, slice_set, replicate}
use Rattle.std.specs.Prelude.{Result, Ok, Err}
use Rattle.std.proofs.lemmas.List.{get_or-set_other, length-set}
use Rattle.std.proofs.lemmas.Bool.{eq-eqb}
use Rattle.pk_ctypes.specs.declared.types.IntType.{IntType}
use Rattle.pk_ctypes.specs.declared.faults.Fault.TheVariants as faults
use Rattle.pk_ctypes.specs.Types.{wrapped}
use Rattle.pk_ctypes.specs.Operators.{value_of}
use Rattle.pk_graph.specs.Trees.{TreeOf, constant, variable, converted, unary, binary, ArrayOf, InstrOf, Skip, Set, Havoc, Clear, Load, Store, Guard, Check}
use Rattle.pk_graph.specs.Steps.{Numbers, number_at, Failure, failure, and_then, at_site, tree_value, is_true, indexed, are_any, After, To, Blocked, Wants, Faulted, with_value, passed, effect}
use Rattle.pk_graph.specs.Stores.{Stored, numbers_of, storing}
use Rattle.pk_meaning.specs.Objects.{Object}
use Rattle.pk_meaning.specs.Objects as objects
use Rattle.pk_visits.specs.SameVisits as graphs
use Rattle.pk_visits.proofs.Follow.{IsInside}
use Rattle.pk_visits.proofs.Slots.{Slot, own, temporary, Instr, Memory, memory, memory_numbers, with_memory, SlotTree}
use Rattle.pk_visits.proofs.Stores.{decided, same_object, slot_other}

-- how slots are named by numbers
abbrev pub Naming : Type 0
Naming = Slot → ℕ

abbrev pub renamed : Naming → SlotTree → TreeOf ℕ
renamed f (constant t z) = constant t z
renamed f (variable x) = variable (f x)
renamed f (converted t e) = converted t (renamed f e)
renamed f (unary op s t e) = unary op s t (renamed f e)
renamed f (binary op s t a b) = binary op s t (renamed f a) (renamed f b)

abbrev pub renamed_array : Naming → ArrayOf Slot → ArrayOf ℕ
renamed_array f a = record { variable = f a.variable; length = a.length }

abbrev pub renamed_instr : Naming → Instr → InstrOf ℕ
renamed_instr f Skip = Skip
renamed_instr f (Set x e) = Set (f x) (renamed f e)
renamed_instr f (Havoc x t n) = Havoc (f x) t n
renamed_instr f (Clear a) = Clear (renamed_array f a)
renamed_instr f (Load x a s b i) = Load (f x) (renamed_array f a) s b (renamed f i)
renamed_instr f (Store a s b i e) = Store (renamed_array f a) s b (renamed f i) (renamed f e)
renamed_instr f (Guard e b) = Guard (renamed f e) b
renamed_instr f (Check s e) = Check s (renamed f e)

-- The slots of a graph have numbers below n, no two of them the same.
pub record IsNaming (f : Naming) (Made : Slot → Type 0) (n : ℕ) : Type 0 where
  pub apart : (x y : Slot) → Made x → Made y → f x ≡ f y → x ≡ y
  pub below : (x : Slot) → Made x → f x < n

-- of a slot of the graph alone
abbrev pub IsOver : (Made : Slot → Type 0) → SlotTree → Type 0
IsOver M (constant t z) = Unit {0}
IsOver M (variable x) = M x
IsOver M (converted t e) = IsOver M e
IsOver M (unary op s t e) = IsOver M e
IsOver M (binary op s t a b) = IsOver M a × IsOver M b

-- an array is no temporary
abbrev pub IsArrayOver : (Made : Slot → Type 0) → ArrayOf Slot → Type 0
IsArrayOver M a = (x : Object) × (a.variable ≡ own x) × M a.variable

abbrev pub IsInstrOver : (Made : Slot → Type 0) → Instr → Type 0
IsInstrOver M Skip = Unit {0}
IsInstrOver M (Set x e) = M x × IsOver M e
IsInstrOver M (Havoc x t n) = M x
IsInstrOver M (Clear a) = IsArrayOver M a
IsInstrOver M (Load x a s b i) = M x × IsArrayOver M a × IsOver M i
IsInstrOver M (Store a s b i e) = IsArrayOver M a × IsOver M i × IsOver M e
IsInstrOver M (Guard e b) = IsOver M e
IsInstrOver M (Check s e) = IsOver M e

-- as much as a slot holds: of a temporary its one number
abbrev pub AsMuch : Slot → Numbers → Numbers → Type 0
AsMuch (own x) ns zs = zs ≡ ns
AsMuch (temporary k) ns zs = number_at zs 0 ≡ number_at ns 0

-- the store holds what the memory holds
pub record Mirrors (f : Naming) (Made : Slot → Type 0) (n : ℕ) (m : Memory) (s : Stored) : Type 0 where
  pub size : length s ≡ n
  pub same : (x : Slot) → Made x → AsMuch x (memory_numbers x m) (numbers_of s (f x))

-- each object of the graph has a place in the memory
abbrev pub AreThere : (Made : Slot → Type 0) → Memory → Type 0
AreThere M m = (x : Object) → M (own x) → 0 < length (objects.numbers_of x m.objects)

-- ---- trees

first_number : (x : Slot) (ns zs : Numbers) → AsMuch x ns zs → number_at zs 0 ≡ number_at ns 0
first_number (own x) ns zs h = ap (λ ys. number_at ys 0) h
first_number (temporary k) ns zs h = h

pub tree_same : (f : Naming) (M : Slot → Type 0) (n : ℕ) (m : Memory) (s : Stored) (e : SlotTree) → IsOver M e → Mirrors f M n m s → tree_value storing (renamed f e) s ≡ tree_value memory e m
tree_same f M n m s (constant t z) o h = refl
tree_same f M n m s (variable x) o h = ap Ok (first_number x (memory_numbers x m) (numbers_of s (f x)) (h.same x o))
tree_same f M n m s (converted t e) o h = ap (λ r. and_then r (λ v. Ok (wrapped t v))) (tree_same f M n m s e o h)
tree_same f M n m s (unary op at t e) o h = ap (λ r. and_then r (λ v. at_site at (value_of op t v v))) (tree_same f M n m s e o h)
tree_same f M n m s (binary op at t a b) o h =
    ap (λ r. and_then r (λ v. and_then (tree_value storing (renamed f b) s) (λ w. at_site at (value_of op t v w)))) (tree_same f M n m s a o.0 h)
    ∙ ap (λ q. and_then (tree_value memory a m) (λ v. and_then q (λ w. at_site at (value_of op t v w)))) (tree_same f M n m s b o.1 h)

-- ---- writing

set_here : (s : Stored) (i : ℕ) (zs : Numbers) → i < length s → numbers_of (slice_set s i zs) i ≡ zs
set_here [] i zs h = absurd (omega (arith, h))
set_here (x ∷ s) zero zs h = refl
set_here (x ∷ s) (suc i) zs h = set_here s i zs (omega (arith, h))

same_number : (n : ℕ) → nat_eq n n ≡ true
same_number n = eq-eqb n n refl

-- a slot that is written
here : (x : Slot) (zs : Numbers) (m : Memory) → ((y : Object) → x ≡ own y → 0 < length (objects.numbers_of y m.objects)) → AsMuch x (memory_numbers x (with_memory x zs m)) zs
here (own x) zs m t = sym (same_object x zs m.objects (t x refl))
here (temporary n) zs m t = ap (λ b. if b then number_at zs 0 else m.temporaries n) (sym (same_number n))

pub mirrors_written : (f : Naming) (M : Slot → Type 0) (n : ℕ) (m : Memory) (s : Stored) (x : Slot) (zs : Numbers) → IsNaming f M n → M x → AreThere M m → Mirrors f M n m s
    → Mirrors f M n (with_memory x zs m) (slice_set s (f x) zs)
mirrors_written f M n m s x zs g i t h = record { size = length-set s (f x) zs ∙ h.size; same = λ y j. by y j (decided (f x) (f y)) }
  where
    inside : f x < length s
    inside = subst (λ k. f x < k) (sym h.size) (g.below x i)

    by : (y : Slot) → M y → (f x ≡ f y) ⊎ (f x ≡ f y → ⊥) → AsMuch y (memory_numbers y (with_memory x zs m)) (numbers_of (slice_set s (f x) zs) (f y))
    by y j (inl e) =
        subst (λ z. AsMuch z (memory_numbers z (with_memory x zs m)) (numbers_of (slice_set s (f x) zs) (f z))) (g.apart x y i j e)
        (subst (λ ys. AsMuch x (memory_numbers x (with_memory x zs m)) ys) (sym (set_here s (f x) zs inside)) (here x zs m (λ o q. t o (subst M q i))))
    by y j (inr d) =
        subst (λ ns. AsMuch y ns (numbers_of (slice_set s (f x) zs) (f y))) (sym (slot_other x y zs m (λ e. d (ap f e))))
        (subst (λ ys. AsMuch y (memory_numbers y m) ys) (sym (get_or-set_other s (f x) (f y) zs [] (λ q. d (sym q)))) (h.same y j))

-- ---- instructions

pub data Alike (f : Naming) (Made : Slot → Type 0) (n : ℕ) : After Memory → After Stored → Type 0 where
  goes : {m : Memory} {s : Stored} → Mirrors f Made n m s → Alike f Made n (To m) (To s)
  blocked : Alike f Made n Blocked Blocked
  wants : {t : IntType} {k : ℕ} → Alike f Made n (Wants t k) (Wants t k)
  fails : {e : Failure} → Alike f Made n (Faulted e) (Faulted e)

alike_value : {A : Type 0} (f : Naming) (M : Slot → Type 0) (n : ℕ) (r q : Result A Failure) (F : A → After Memory) (G : A → After Stored) → q ≡ r → ((v : A) → Alike f M n (F v) (G v))
    → Alike f M n (with_value r F) (with_value q G)
alike_value {A} f M n r q F G e h = subst (λ (z : Result A Failure). Alike f M n (with_value r F) (with_value z G)) (sym e) (by r) where
  by : (o : Result A Failure) → Alike f M n (with_value o F) (with_value o G)
  by (Ok v) = h v
  by (Err x) = fails

alike_if : (f : Naming) (M : Slot → Type 0) (n : ℕ) (b : Bool) (x y : After Memory) (v w : After Stored) → Alike f M n x v → Alike f M n y w → Alike f M n (if b then x else y) (if b then v else w)
alike_if f M n true x y v w h k = h
alike_if f M n false x y v w h k = k

alike_passed : (f : Naming) (M : Slot → Type 0) (n : ℕ) (m : Memory) (s : Stored) (a b : Bool) → Mirrors f M n m s → Alike f M n (passed a b m) (passed a b s)
alike_passed f M n m s true true h = goes h
alike_passed f M n m s true false h = blocked
alike_passed f M n m s false true h = blocked
alike_passed f M n m s false false h = goes h

array_same : (f : Naming) (M : Slot → Type 0) (n : ℕ) (m : Memory) (s : Stored) (a : ArrayOf Slot) → IsArrayOver M a → Mirrors f M n m s → numbers_of s (f a.variable) ≡ memory_numbers a.variable m
array_same f M n m s a o h = by a.variable o.1 (h.same a.variable o.2) where
  by : (x : Slot) → x ≡ own o.0 → AsMuch x (memory_numbers x m) (numbers_of s (f x)) → numbers_of s (f x) ≡ memory_numbers x m
  by (own x) e k = k
  by (temporary k) e j = absurd (subst is_temporary e tt) where
    is_temporary : Slot → Type 0
    is_temporary (own z) = ⊥
    is_temporary (temporary i) = Unit {0}

-- An instruction does the same to both.
pub effect_same : (f : Naming) (M : Slot → Type 0) (n : ℕ) (m : Memory) (s : Stored) (chosen : Numbers) (i : Instr) → IsNaming f M n → IsInstrOver M i → AreThere M m → Mirrors f M n m s
    → Alike f M n (effect memory chosen i m) (effect storing chosen (renamed_instr f i) s)
effect_same f M n m s ch Skip g o t h = goes h
effect_same f M n m s ch (Set x e) g o t h =
    alike_value f M n (tree_value memory e m) (tree_value storing (renamed f e) s) (λ v. To (with_memory x (v ∷ []) m)) (λ v. To (slice_set s (f x) (v ∷ []))) (tree_same f M n m s e o.1 h)
    (λ v. goes (mirrors_written f M n m s x (v ∷ []) g o.0 t h))
effect_same f M n m s ch (Havoc x t k) g o a h =
    alike_if f M n (are_any t k ch) (To (with_memory x ch m)) (Wants t k) (To (slice_set s (f x) ch)) (Wants t k) (goes (mirrors_written f M n m s x ch g o a h)) wants
effect_same f M n m s ch (Clear a) g o t h = goes (mirrors_written f M n m s a.variable (replicate a.length (pos 0)) g o.2 t h)
effect_same f M n m s ch (Load x a at b i) g o t h =
    alike_value f M n (and_then (tree_value memory i m) (indexed at a.length)) (and_then (tree_value storing (renamed f i) s) (indexed at a.length))
    (λ k. To (with_memory x (number_at (memory_numbers a.variable m) k ∷ []) m)) (λ k. To (slice_set s (f x) (number_at (numbers_of s (f a.variable)) k ∷ [])))
    (ap (λ r. and_then r (indexed at a.length)) (tree_same f M n m s i o.2 h))
    (λ k. subst (λ zs. Alike f M n (To (with_memory x (number_at (memory_numbers a.variable m) k ∷ []) m)) (To (slice_set s (f x) (number_at zs k ∷ [])))) (sym (array_same f M n m s a o.1 h))
    (goes (mirrors_written f M n m s x (number_at (memory_numbers a.variable m) k ∷ []) g o.0 t h)))
effect_same f M n m s ch (Store a at b i e) g o t h =
    alike_value f M n (tree_value memory i m) (tree_value storing (renamed f i) s)
    (λ z. with_value (tree_value memory e m) (λ v. with_value (indexed at a.length z) (λ k. To (with_memory a.variable (slice_set (memory_numbers a.variable m) k v) m))))
    (λ z. with_value (tree_value storing (renamed f e) s) (λ v. with_value (indexed at a.length z) (λ k. To (slice_set s (f a.variable) (slice_set (numbers_of s (f a.variable)) k v)))))
    (tree_same f M n m s i o.1 h)
    (λ z. alike_value f M n (tree_value memory e m) (tree_value storing (renamed f e) s)
    (λ v. with_value (indexed at a.length z) (λ k. To (with_memory a.variable (slice_set (memory_numbers a.variable m) k v) m)))
    (λ v. with_value (indexed at a.length z) (λ k. To (slice_set s (f a.variable) (slice_set (numbers_of s (f a.variable)) k v))))
    (tree_same f M n m s e o.2 h)
    (λ v. alike_value f M n (indexed at a.length z) (indexed at a.length z)
    (λ k. To (with_memory a.variable (slice_set (memory_numbers a.variable m) k v) m)) (λ k. To (slice_set s (f a.variable) (slice_set (numbers_of s (f a.variable)) k v))) refl
    (λ k. subst (λ zs. Alike f M n (To (with_memory a.variable (slice_set (memory_numbers a.variable m) k v) m)) (To (slice_set s (f a.variable) (slice_set zs k v)))) (sym (array_same f M n m s a o.0 h))
    (goes (mirrors_written f M n m s a.variable (slice_set (memory_numbers a.variable m) k v) g o.0.2 t h)))))
effect_same f M n m s ch (Guard e b) g o t h =
    alike_value f M n (tree_value memory e m) (tree_value storing (renamed f e) s) (λ v. passed (is_true v) b m) (λ v. passed (is_true v) b s) (tree_same f M n m s e o h)
    (λ v. alike_passed f M n m s (is_true v) b h)
effect_same f M n m s ch (Check at e) g o t h =
    alike_value f M n (tree_value memory e m) (tree_value storing (renamed f e) s) (λ v. if is_true v then To m else Faulted (failure faults.Assert at)) (λ v. if is_true v then To s else Faulted (failure faults.Assert at))
    (tree_same f M n m s e o h)
    (λ v. alike_if f M n (is_true v) (To m) (Faulted (failure faults.Assert at)) (To s) (Faulted (failure faults.Assert at)) (goes h) fails)

-- where it goes on from the memory
pub goes_same : (f : Naming) (M : Slot → Type 0) (n : ℕ) (m after : Memory) (s : Stored) (chosen : Numbers) (i : Instr) → IsNaming f M n → IsInstrOver M i → AreThere M m → Mirrors f M n m s
    → effect memory chosen i m ≡ To after → (t : Stored) × (effect storing chosen (renamed_instr f i) s ≡ To t) × Mirrors f M n after t
goes_same f M n m after s ch i g o a h e = by (effect_same f M n m s ch i g o a h) e where
  inner : After Memory → Memory
  inner (To x) = x
  inner Blocked = after
  inner (Wants t k) = after
  inner (Faulted x) = after

  is_to : After Memory → Type 0
  is_to (To x) = Unit {0}
  is_to Blocked = ⊥
  is_to (Wants t k) = ⊥
  is_to (Faulted x) = ⊥

  by : {x : After Memory} {y : After Stored} → Alike f M n x y → x ≡ To after → (t : Stored) × (y ≡ To t) × Mirrors f M n after t
  by (goes {s = t} k) q = (t, refl, subst (λ z. Mirrors f M n z t) (ap inner q) k)
  by blocked q = absurd (subst is_to (sym q) tt)
  by wants q = absurd (subst is_to (sym q) tt)
  by fails q = absurd (subst is_to (sym q) tt)

-- where it faults there
pub faults_same : (f : Naming) (M : Slot → Type 0) (n : ℕ) (m : Memory) (s : Stored) (chosen : Numbers) (i : Instr) (x : Failure) → IsNaming f M n → IsInstrOver M i → AreThere M m → Mirrors f M n m s
    → effect memory chosen i m ≡ Faulted x → effect storing chosen (renamed_instr f i) s ≡ Faulted x
faults_same f M n m s ch i x g o a h e = by (effect_same f M n m s ch i g o a h) e where
  inner : After Memory → Failure
  inner (To y) = x
  inner Blocked = x
  inner (Wants t k) = x
  inner (Faulted y) = y

  is_fault : After Memory → Type 0
  is_fault (To y) = ⊥
  is_fault Blocked = ⊥
  is_fault (Wants t k) = ⊥
  is_fault (Faulted y) = Unit {0}

  by : {y : After Memory} {z : After Stored} → Alike f M n y z → y ≡ Faulted x → z ≡ Faulted x
  by (goes k) q = absurd (subst is_fault (sym q) tt)
  by blocked q = absurd (subst is_fault (sym q) tt)
  by wants q = absurd (subst is_fault (sym q) tt)
  by fails q = ap Faulted (ap inner q)

-- an index that lies inside does so there
pub inside_same : (f : Naming) (M : Slot → Type 0) (n : ℕ) (m : Memory) (s : Stored) (i : Instr) → IsNaming f M n → IsInstrOver M i → AreThere M m → Mirrors f M n m s
    → IsInside i m → graphs.IsInside (renamed_instr f i) s
inside_same f M n m s Skip g o a h k = tt
inside_same f M n m s (Set x e) g o a h k = tt
inside_same f M n m s (Havoc x t c) g o a h k = tt
inside_same f M n m s (Clear y) g o a h k = tt
inside_same f M n m s (Load x y at b i) g o a h k = λ q z u. k q z (sym (tree_same f M n m s i o.2 h) ∙ u)
inside_same f M n m s (Store y at b i e) g o a h k = λ q z u. k q z (sym (tree_same f M n m s i o.1 h) ∙ u)
inside_same f M n m s (Guard e b) g o a h k = tt
inside_same f M n m s (Check at e) g o a h k = tt
