-- The elements of a list that have a property.
use Rattle.std.proofs.Common.{ℕ, zero, suc, ◌<◌, ◌≤◌, List, [], ◌∷◌, length, sym, subst, inl, inr, arith, Contains}
use Rattle.std.proofs.lemmas.Bool.{cases_eq, cases_lt}
use Rattle.pk_linear.proofs.ListLemmas.{contains_none, contains_here, contains_there, contains_cases}
use Rattle.pk_order_laws.proofs.Told.{Told}

pub record Picked (xs : List ℕ) (P : ℕ → Type 0) : Type 0 where
  pub list : List ℕ
  pub has : (v : ℕ) → Contains xs v → P v → Contains list v
  pub within : (v : ℕ) → Contains list v → Contains xs v
  pub holds : (v : ℕ) → Contains list v → P v
  pub short : length list ≤ length xs
  pub fewer : (v : ℕ) → Contains xs v → (P v → ⊥) → length list < length xs

picked_with : (x : ℕ) (xs : List ℕ) (P : ℕ → Type 0) → P x → Picked xs P → Picked (x ∷ xs) P
picked_with x xs P does more = record {
  list = x ∷ more.list;
  has = λ v i p. elim (contains_cases x v xs i) [ inl e ↦ subst (λ (z : ℕ). Contains (x ∷ more.list) z) e (contains_here x more.list) | inr j ↦ contains_there x more.list (more.has v j p) ];
  within = λ v i. elim (contains_cases x v more.list i) [ inl e ↦ subst (λ (z : ℕ). Contains (x ∷ xs) z) e (contains_here x xs) | inr j ↦ contains_there x xs (more.within v j) ];
  holds = λ v i. elim (contains_cases x v more.list i) [ inl e ↦ subst P e does | inr j ↦ more.holds v j ];
  short = let s : length more.list ≤ length xs = more.short in omega (arith, s);
  fewer = λ v i never. elim (contains_cases x v xs i) [ inl e ↦ absurd (never (subst P e does)) | inr j ↦ let s : length more.list < length xs = more.fewer v j never in omega (arith, s) ];
}

picked_without : (x : ℕ) (xs : List ℕ) (P : ℕ → Type 0) → (P x → ⊥) → Picked xs P → Picked (x ∷ xs) P
picked_without x xs P none more = record {
  list = more.list;
  has = λ v i p. elim (contains_cases x v xs i) [ inl e ↦ absurd (none (subst P (sym e) p)) | inr j ↦ more.has v j p ];
  within = λ v i. contains_there x xs (more.within v i);
  holds = more.holds;
  short = let s : length more.list ≤ length xs = more.short in omega (arith, s);
  fewer = λ v i never. let s : length more.list ≤ length xs = more.short in omega (arith, s);
}

pub picked : (xs : List ℕ) (P : ℕ → Type 0) → ((v : ℕ) → Told (P v)) → Picked xs P
picked [] P tells = record {
  list = [];
  has = λ v i p. i;
  within = λ v i. i;
  holds = λ v i. absurd (contains_none i);
  short = omega arith;
  fewer = λ v i never. absurd (contains_none i);
}
picked (x ∷ xs) P tells = elim (tells x) [
  | inl does ↦ picked_with x xs P does (picked xs P tells)
  | inr none ↦ picked_without x xs P none (picked xs P tells)
]

-- the least element
least_from : (x : ℕ) (xs : List ℕ) → (h : ℕ) × Contains (x ∷ xs) h × ((w : ℕ) → Contains (x ∷ xs) w → h ≤ w)
least_from x [] = (x, contains_here x [], (λ w i. elim (contains_cases x w [] i) [ inl e ↦ omega (arith, e) | inr j ↦ absurd (contains_none j) ]))
least_from x (y ∷ ys) =
    let m : (h : ℕ) × Contains (y ∷ ys) h × ((w : ℕ) → Contains (y ∷ ys) w → h ≤ w) = least_from y ys in
    elim (cases_lt x m.0) [
      | inl l ↦ (x, contains_here x (y ∷ ys), (λ w i. elim (contains_cases x w (y ∷ ys) i) [ inl e ↦ omega (arith, e) | inr j ↦ let k : m.0 ≤ w = m.2 w j in omega (arith, l, k) ]))
      | inr l ↦ (m.0, contains_there x (y ∷ ys) m.1, (λ w i. elim (contains_cases x w (y ∷ ys) i) [ inl e ↦ omega (arith, e, l) | inr j ↦ m.2 w j ]))
    ]

pub least_of : (xs : List ℕ) (v : ℕ) → Contains xs v → (h : ℕ) × Contains xs h × ((w : ℕ) → Contains xs w → h ≤ w)
least_of [] v i = absurd (contains_none i)
least_of (x ∷ xs) v i = least_from x xs

-- the numbers below a number
abbrev pub below : ℕ → List ℕ
below zero = []
below (suc n) = n ∷ below n

pub below_has : (n v : ℕ) → v < n → Contains (below n) v
below_has zero v l = absurd (omega (arith, l))
below_has (suc n) v l = elim (cases_eq n v) [
  | inl e ↦ subst (λ (z : ℕ). Contains (n ∷ below n) z) e (contains_here n (below n))
  | inr o ↦ contains_there n (below n) (below_has n v (omega (arith, l, o)))
]

pub below_only : (n v : ℕ) → Contains (below n) v → v < n
below_only zero v i = absurd (contains_none i)
below_only (suc n) v i = elim (contains_cases n v (below n) i) [
  | inl e ↦ omega (arith, e)
  | inr j ↦ let l : v < n = below_only n v j in omega (arith, l)
]
