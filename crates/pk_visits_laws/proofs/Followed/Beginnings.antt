-- The unit's draft begins with what the objects hold: which slot each variable is, and what it starts with.
use Rattle.std.proofs.Common.{◌≡◌, ℕ, zero, suc, ◌<◌, ◌≤◌, ◌⊎◌, inl, inr, List, [], ◌∷◌, ◌++◌, length, Bool, true, false, nat_eq, if◌then◌else◌, Option, Some, None, refl, sym, ap, subst, ◌∙◌, arith}
use Rattle.std.proofs.lemmas.Bool.{eq-eqb}
use Rattle.std.proofs.lemmas.Bool.Decides.{eqb_tells}
use Rattle.std.proofs.lemmas.Option.{none-some}
use Rattle.pk_ctypes.specs.declared.types.IntType.{IntType}
use Rattle.pk_typed.specs.Trees.{UnitTree}
use Rattle.pk_calls.specs.declared.listings.CallPath.{CallPath}
use Rattle.pk_lower.specs.Parts.{function_at}
use Rattle.pk_lower_laws.proofs.Drafts.Tables.{Table}
use Rattle.pk_lower_laws.proofs.Drafts.Places.{HasIf, ResultIs}
use Rattle.pk_lower_laws.proofs.Drafts.Drafts.{function_from}
use Rattle.pk_lower_laws.proofs.Drafts.Each.{objects_of}
use Rattle.pk_meaning.specs.Objects.{Object, file, local, result}
use Rattle.pk_visits.proofs.Slots.{Slot, own, temporary, Among, front_among as front}
use Rattle.pk_visits_laws.proofs.Followed.Pairs.{whole, ends_of, pair_table, world, AreTyped}
use Rattle.pk_visits_laws.proofs.Followed.Naming.{naming, Made, returns_is, is_naming}
use Rattle.pk_visits_laws.proofs.Followed.Copies.{local_made, file_made}

-- ---- the objects of the draft

files_below : ℕ → List Object
files_below zero = []
files_below (suc n) = file n ∷ files_below n

locals_below : (path : ℕ) → ℕ → List Object
locals_below k zero = []
locals_below k (suc n) = local k n ∷ locals_below k n

result_if : (path : ℕ) → Option IntType → List Object
result_if k None = []
result_if k (Some t) = result k ∷ []

paths_below : UnitTree → List CallPath → ℕ → List Object
paths_below u paths zero = []
paths_below u paths (suc k) = locals_below k (ends_of u paths k).objects ++ (result_if k (function_at u (function_from paths k)).returns ++ paths_below u paths k)

all_objects : UnitTree → List CallPath → List Object
all_objects u paths = files_below (length u.objects) ++ paths_below u paths (length paths)

back : {A : Type 0} (xs ys : List A) (x : A) → Among x ys → Among x (xs ++ ys)
back [] ys x h = h
back (y ∷ xs) ys x h = inr (back xs ys x h)

either_among : {A : Type 0} (xs ys : List A) (x : A) → Among x (xs ++ ys) → Among x xs ⊎ Among x ys
either_among [] ys x h = inr h
either_among (y ∷ xs) ys x (inl e) = inl (inl e)
either_among (y ∷ xs) ys x (inr h) = elim (either_among xs ys x h) [ inl a ↦ inl (inr a) | inr a ↦ inr a ]

among_files : (n i : ℕ) → i < n → Among (file i) (files_below n)
unfolding files_below
among_files zero i h = absurd (omega (h, arith))
among_files (suc n) i h = elim (last i n) [ inl e ↦ inl (ap file e) | inr l ↦ inr (among_files n i (l h)) ] where
  last : (i n : ℕ) → (i ≡ n) ⊎ (i < suc n → i < n)
  last i n = elim (eqb_tells i n) [ inl e ↦ inl e.1 | inr e ↦ inr (λ h. omega (h, e.1, arith)) ]

among_locals : (k n i : ℕ) → i < n → Among (local k i) (locals_below k n)
unfolding locals_below
among_locals k zero i h = absurd (omega (h, arith))
among_locals k (suc n) i h = elim (last i n) [ inl e ↦ inl (ap (local k) e) | inr l ↦ inr (among_locals k n i (l h)) ] where
  last : (i n : ℕ) → (i ≡ n) ⊎ (i < suc n → i < n)
  last i n = elim (eqb_tells i n) [ inl e ↦ inl e.1 | inr e ↦ inr (λ h. omega (h, e.1, arith)) ]

among_path : (u : UnitTree) (paths : List CallPath) (x : Object) (k n : ℕ) → k < n → Among x (locals_below k (ends_of u paths k).objects ++ result_if k (function_at u (function_from paths k)).returns) → Among x (paths_below u paths n)
unfolding paths_below
among_path u paths x k zero h a = absurd (omega (h, arith))
among_path u paths x k (suc n) h a = elim (last k n) [
  | inl e ↦ subst (λ (m : ℕ). Among x (locals_below m (ends_of u paths m).objects ++ (result_if m (function_at u (function_from paths m)).returns ++ paths_below u paths n))) e
      (by (locals_below k (ends_of u paths k).objects) (result_if k (function_at u (function_from paths k)).returns) (paths_below u paths n) a)
  | inr l ↦ back (locals_below n (ends_of u paths n).objects) (result_if n (function_at u (function_from paths n)).returns ++ paths_below u paths n) x
      (back (result_if n (function_at u (function_from paths n)).returns) (paths_below u paths n) x (among_path u paths x k n (l h) a))
] where
  last : (i n : ℕ) → (i ≡ n) ⊎ (i < suc n → i < n)
  last i n = elim (eqb_tells i n) [ inl e ↦ inl e.1 | inr e ↦ inr (λ h. omega (h, e.1, arith)) ]

  by : (xs ys zs : List Object) → Among x (xs ++ ys) → Among x (xs ++ (ys ++ zs))
  by xs ys zs a = elim (either_among xs ys x a) [ inl b ↦ front xs (ys ++ zs) x b | inr b ↦ back xs (ys ++ zs) x (front ys zs x b) ]

result_among : (k : ℕ) (r : Option IntType) (t : IntType) → r ≡ Some t → Among (result k) (result_if k r)
unfolding result_if
result_among k None t e = absurd (none-some t e)
result_among k (Some u) t e = inl refl

-- each object of the draft is listed
listed : (u : UnitTree) (paths : List CallPath) (x : Object) → Made u paths (own x) → Among x (all_objects u paths)
unfolding all_objects
listed u paths (file i) m = front (files_below (length u.objects)) (paths_below u paths (length paths)) (file i) (among_files (length u.objects) i m.1.1)
listed u paths (local k i) m =
    back (files_below (length u.objects)) (paths_below u paths (length paths)) (local k i)
    (among_path u paths (local k i) k (length paths) m.1.path (front (locals_below k (ends_of u paths k).objects) (result_if k (function_at u (function_from paths k)).returns) (local k i) (among_locals k (ends_of u paths k).objects i m.1.declared)))
listed u paths (result k) m =
    let r = (function_at u (function_from paths k)).returns in
    back (files_below (length u.objects)) (paths_below u paths (length paths)) (result k)
    (among_path u paths (result k) k (length paths) m.1.path (back (locals_below k (ends_of u paths k).objects) (result_if k r) (result k) (result_among k r m.1.type m.1.returns)))

-- each listed object is the draft's
files_made : (u : UnitTree) (paths : List CallPath) → AreTyped u paths → (n : ℕ) → n ≤ length u.objects → (x : Object) → Among x (files_below n) → Made u paths (own x)
unfolding files_below
files_made u paths h zero l x a = absurd a
files_made u paths h (suc n) l x (inl e) = subst (λ (y : Object). Made u paths (own y)) (sym e) (file_made u paths h n (omega (l, arith)))
files_made u paths h (suc n) l x (inr a) = files_made u paths h n (omega (l, arith)) x a

locals_made : (u : UnitTree) (paths : List CallPath) → AreTyped u paths → (k n : ℕ) → k < length paths → n ≤ (ends_of u paths k).objects → (x : Object) → Among x (locals_below k n) → Made u paths (own x)
unfolding locals_below
locals_made u paths h k zero b l x a = absurd a
locals_made u paths h k (suc n) b l x (inl e) = subst (λ (y : Object). Made u paths (own y)) (sym e) (local_made u paths h k n b (omega (l, arith)))
locals_made u paths h k (suc n) b l x (inr a) = locals_made u paths h k n b (omega (l, arith)) x a

has_result : (t : Table) (k y z : ℕ) (r : Option IntType) (u : IntType) → r ≡ Some u → ResultIs r (λ n. z ≡ n) y → HasIf t (t.names.result k y) r → t.is_there (t.names.result k z)
has_result t k y z None u e a h = absurd (none-some u e)
has_result t k y z (Some v) u e a h = subst (λ (n : ℕ). t.is_there (t.names.result k n)) (sym a) h.there

pub result_made : (u : UnitTree) (paths : List CallPath) (h : AreTyped u paths) (k : ℕ) (t : IntType) → k < length paths → (function_at u (function_from paths k)).returns ≡ Some t → Made u paths (own (result k))
result_made u paths h k t b e =
    let p = h.parts k b in
    let o = objects_of (world u paths) h.lasts (whole u paths) k p in
    has_result (pair_table u paths) k _ (ends_of u paths k).result p.place.function.returns t (sym (returns_is u paths k p) ∙ e) p.ends.result o.result

results_made : (u : UnitTree) (paths : List CallPath) → AreTyped u paths → (k : ℕ) → k < length paths → (r : Option IntType) → (function_at u (function_from paths k)).returns ≡ r → (x : Object) → Among x (result_if k r) → Made u paths (own x)
unfolding result_if
results_made u paths h k b None e x a = absurd a
results_made u paths h k b (Some t) e x (inl q) = subst (λ (y : Object). Made u paths (own y)) (sym q) (result_made u paths h k t b e)
results_made u paths h k b (Some t) e x (inr a) = absurd a

paths_made : (u : UnitTree) (paths : List CallPath) → AreTyped u paths → (n : ℕ) → n ≤ length paths → (x : Object) → Among x (paths_below u paths n) → Made u paths (own x)
unfolding paths_below
paths_made u paths h zero l x a = absurd a
paths_made u paths h (suc k) l x a =
    let xs = locals_below k (ends_of u paths k).objects in
    let ys = result_if k (function_at u (function_from paths k)).returns in
    elim (either_among xs (ys ++ paths_below u paths k) x a) [
      | inl b ↦ locals_made u paths h k (ends_of u paths k).objects (omega (l, arith)) (omega arith) x b
      | inr b ↦ elim (either_among ys (paths_below u paths k) x b) [
        | inl c ↦ results_made u paths h k (omega (l, arith)) (function_at u (function_from paths k)).returns refl x c
        | inr c ↦ paths_made u paths h k (omega (l, arith)) x c
      ]
    ]

all_made : (u : UnitTree) (paths : List CallPath) → AreTyped u paths → (x : Object) → Among x (all_objects u paths) → Made u paths (own x)
unfolding all_objects
all_made u paths h x a = elim (either_among (files_below (length u.objects)) (paths_below u paths (length paths)) x a) [
  | inl b ↦ files_made u paths h (length u.objects) (omega arith) x b
  | inr b ↦ paths_made u paths h (length paths) (omega arith) x b
]

-- ---- which slot a variable is

searched : UnitTree → List CallPath → ℕ → List Object → Slot
searched u paths y [] = temporary y
searched u paths y (x ∷ xs) = if nat_eq (naming u paths (own x)) y then own x else searched u paths y xs

abbrev own_inside : Slot → Object → Object
own_inside (own x) z = x
own_inside (temporary n) z = z

search_finds : (u : UnitTree) (paths : List CallPath) → AreTyped u paths → (y : ℕ) (xs : List Object) (x : Object) → ((z : Object) → Among z xs → Made u paths (own z)) → Among x xs → naming u paths (own x) ≡ y → searched u paths y xs ≡ own x
unfolding searched
search_finds u paths h y [] x m a e = absurd a
search_finds u paths h y (z ∷ zs) x m a e = by (nat_eq (naming u paths (own z)) y) refl (λ b. search_finds u paths h y zs x (λ w c. m w (inr c)) b e) where
  by : (b : Bool) → nat_eq (naming u paths (own z)) y ≡ b → (Among x zs → searched u paths y zs ≡ own x) → (if b then own z else searched u paths y zs) ≡ own x
  by true is f =
      let same : naming u paths (own z) ≡ naming u paths (own x) = elim (eqb_tells (naming u paths (own z)) y) [ inl q ↦ q.1 ∙ sym e | inr q ↦ absurd (cc (is, q.0)) ] in
      (is_naming u paths h).apart (own z) (own x) (m z (inl refl)) (m x a) same
  by false is f = elim a [
    | inl q ↦ absurd (cc (is, eq-eqb (naming u paths (own z)) y (ap (λ (w : Object). naming u paths (own w)) (sym q) ∙ e)))
    | inr b ↦ f b
  ]

search_told : (u : UnitTree) (paths : List CallPath) (y : ℕ) (xs : List Object) (x : Object) → searched u paths y xs ≡ own x → Among x xs × (naming u paths (own x) ≡ y)
unfolding searched
search_told u paths y [] x e = absurd (cc e)
search_told u paths y (z ∷ zs) x e = by (nat_eq (naming u paths (own z)) y) refl e (λ q. search_told u paths y zs x q) where
  by : (b : Bool) → nat_eq (naming u paths (own z)) y ≡ b → (if b then own z else searched u paths y zs) ≡ own x → (searched u paths y zs ≡ own x → Among x zs × (naming u paths (own x) ≡ y)) → Among x (z ∷ zs) × (naming u paths (own x) ≡ y)
  by true is e f =
      let same : z ≡ x = ap (λ (s : Slot). own_inside s z) e in
      let at : naming u paths (own z) ≡ y = elim (eqb_tells (naming u paths (own z)) y) [ inl q ↦ q.1 | inr q ↦ absurd (cc (is, q.0)) ] in
      (inl (sym same), ap (λ (w : Object). naming u paths (own w)) (sym same) ∙ at)
  by false is e f = let r = f e in (inr r.0, r.1)

search_none : (u : UnitTree) (paths : List CallPath) (y : ℕ) (xs : List Object) → ((x : Object) → Among x xs → naming u paths (own x) ≡ y → ⊥) → searched u paths y xs ≡ temporary y
unfolding searched
search_none u paths y [] h = refl
search_none u paths y (z ∷ zs) h = by (nat_eq (naming u paths (own z)) y) refl (search_none u paths y zs (λ x a. h x (inr a))) where
  by : (b : Bool) → nat_eq (naming u paths (own z)) y ≡ b → searched u paths y zs ≡ temporary y → (if b then own z else searched u paths y zs) ≡ temporary y
  by true is f = absurd (h z (inl refl) (elim (eqb_tells (naming u paths (own z)) y) [ inl q ↦ q.1 | inr q ↦ absurd (cc (is, q.0)) ]))
  by false is f = f

pub slot_at : UnitTree → List CallPath → ℕ → Slot
slot_at u paths y = searched u paths y (all_objects u paths)

pub slot_back : (u : UnitTree) (paths : List CallPath) → AreTyped u paths → (s : Slot) → Made u paths s → slot_at u paths (naming u paths s) ≡ s
unfolding slot_at
slot_back u paths h (own x) m = search_finds u paths h (naming u paths (own x)) (all_objects u paths) x (all_made u paths h) (listed u paths x m) refl
slot_back u paths h (temporary y) m = search_none u paths y (all_objects u paths) (λ x a e. absurd (cc ((is_naming u paths h).apart (own x) (temporary y) (all_made u paths h x a) m e)))

pub slot_told : (u : UnitTree) (paths : List CallPath) → AreTyped u paths → (y : ℕ) (x : Object) → slot_at u paths y ≡ own x → Made u paths (own x) × (naming u paths (own x) ≡ y)
unfolding slot_at
slot_told u paths h y x e = let r = search_told u paths y (all_objects u paths) x e in (all_made u paths h x r.0, r.1)

-- a temporary's number is no object's
pub no_object : (u : UnitTree) (paths : List CallPath) → AreTyped u paths → (y n : ℕ) → slot_at u paths y ≡ temporary n → (x : Object) → Made u paths (own x) → naming u paths (own x) ≡ y → ⊥
unfolding slot_at
no_object u paths h y n e x m q = absurd (cc (e, search_finds u paths h y (all_objects u paths) x (all_made u paths h) (listed u paths x m) q))
