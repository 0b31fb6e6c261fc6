-- The digraph of a relation among numbers.
use Rattle.std.proofs.Common.{◌≡◌, ◌⊎◌, ℕ, ◌<◌, Bool, true, false, cond, List, [], ◌∷◌, length, map, filter, get_or, refl, sym, subst, inl, inr, arith, Contains, All}
use Rattle.std.specs.List.{range_with_len}
use Rattle.std.specs.List.Sorted.{IsStrictlyIncreasing}
use Rattle.std.proofs.lemmas.List.FromFn.{get_or-range_with_len, length-range_with_len, get_or-map-range_with_len, length-map-range_with_len}
use Rattle.std.proofs.lemmas.List.Kept.{IsStrictlyIncreasing-filter}
use Rattle.pk_plan.specs.Digraphs.{Edge}
use Rattle.pk_plan.proofs.DigraphLemmas.{edge_from_vertex}
use Rattle.pk_linear.proofs.ListLemmas.{contains_none, contains_here, contains_there, contains_cases}
use Rattle.pk_order_laws.proofs.Told.{Told}
use Rattle.pk_wpo.proofs.Components.{range_rises}

abbrev truth : (P : Type 0) → Told P → Bool
truth P (inl p) = true
truth P (inr n) = false

truth_is : (P : Type 0) (t : Told P) → truth P t ≡ true → P
truth_is P (inl p) h = p
truth_is P (inr n) h = absurd (let e : false ≡ true = h in cc)

is_truth : (P : Type 0) (t : Told P) → P → truth P t ≡ true
is_truth P (inl p) q = refl
is_truth P (inr n) q = absurd (n q)

old_kept : (b : Bool) (x : ℕ) (ys : List ℕ) (v : ℕ) → Contains ys v → Contains (cond b (x ∷ ys) ys) v
old_kept true x ys v i = contains_there x ys i
old_kept false x ys v i = i

new_kept : (b : Bool) (x : ℕ) (ys : List ℕ) → b ≡ true → Contains (cond b (x ∷ ys) ys) x
new_kept b x ys h = subst (λ (c : Bool). Contains (cond c (x ∷ ys) ys) x) (sym h) (contains_here x ys)

kept_cases : (b : Bool) (x : ℕ) (ys : List ℕ) (v : ℕ) → Contains (cond b (x ∷ ys) ys) v → ((x ≡ v) × (b ≡ true)) ⊎ Contains ys v
kept_cases true x ys v i = elim (contains_cases x v ys i) [ inl e ↦ inl (e, refl) | inr j ↦ inr j ]
kept_cases false x ys v i = inr i

filter_has : (p : ℕ → Bool) (xs : List ℕ) (v : ℕ) → Contains xs v → p v ≡ true → Contains (filter p xs) v
filter_has p [] v i h = absurd (contains_none i)
filter_has p (x ∷ xs) v i h = elim (contains_cases x v xs i) [
  | inl e ↦ subst (λ (z : ℕ). Contains (filter p (x ∷ xs)) z) e (new_kept (p x) x (filter p xs) (subst (λ (z : ℕ). p z ≡ true) (sym e) h))
  | inr j ↦ old_kept (p x) x (filter p xs) v (filter_has p xs v j h)
]

filter_only : (p : ℕ → Bool) (xs : List ℕ) (v : ℕ) → Contains (filter p xs) v → p v ≡ true
filter_only p [] v i = absurd (contains_none i)
filter_only p (x ∷ xs) v i = elim (kept_cases (p x) x (filter p xs) v i) [
  | inl e ↦ subst (λ (z : ℕ). p z ≡ true) e.0 e.1
  | inr j ↦ filter_only p xs v j
]

range_has : (k b : ℕ) → b < k → Contains (range_with_len 0 k) b
range_has k b l =
    let at = get_or-range_with_len 0 k b b l in
    let long = length-range_with_len 0 k in
    (b, omega (arith, long, l), omega (arith, at))

pub record GraphOf (m : ℕ) (R : ℕ → ℕ → Type 0) : Type 0 where
  pub lists : List (List ℕ)
  pub long : length lists ≡ m
  pub rises : All IsStrictlyIncreasing lists
  pub has : (a b : ℕ) → R a b → Edge lists a b
  pub only : (a b : ℕ) → Edge lists a b → R a b

abbrev row_of : (m : ℕ) (R : ℕ → ℕ → Type 0) → ((a b : ℕ) → Told (R a b)) → ℕ → List ℕ
row_of m R tells a = filter (λ b. truth (R a b) (tells a b)) (range_with_len 0 m)

pub graph_of : (m : ℕ) (R : ℕ → ℕ → Type 0) → ((a b : ℕ) → Told (R a b)) → ((a b : ℕ) → R a b → (a < m) × (b < m)) → GraphOf m R
graph_of m R tells within =
    let F : ℕ → List ℕ = row_of m R tells in
    let lists : List (List ℕ) = map F (range_with_len 0 m) in
    let long : length lists ≡ m = length-map-range_with_len F 0 m in
    let at : (a : ℕ) (d : List ℕ) → a < m → get_or lists a d ≡ F a = λ a d l. get_or-map-range_with_len F 0 m a a d l (omega arith) in
    record {
      lists = lists;
      long = long;
      rises = λ a d in_range. subst IsStrictlyIncreasing (sym (at a d (omega (arith, in_range, long)))) (IsStrictlyIncreasing-filter (λ b. truth (R a b) (tells a b)) (range_with_len 0 m) (range_rises m));
      has = λ a b r.
          let l : (a < m) × (b < m) = within a b r in
          subst (λ (xs : List ℕ). Contains xs b) (sym (at a [] l.0)) (filter_has (λ c. truth (R a c) (tells a c)) (range_with_len 0 m) b (range_has m b l.1) (is_truth (R a b) (tells a b) r));
      only = λ a b e.
          let l : a < length lists = edge_from_vertex lists a b e in
          truth_is (R a b) (tells a b) (filter_only (λ c. truth (R a c) (tells a c)) (range_with_len 0 m) b (subst (λ (xs : List ℕ). Contains xs b) (at a [] (omega (arith, l, long))) e));
    }
