-- Lists: what stands in them, and what is counted.
use Rattle.std.proofs.Common.{◌≡◌, ◌≢◌, ℕ, zero, suc, ◌+◌, ◌<◌, ◌==◌, ◌||◌, ◌⊎◌, inl, inr, List, [], ◌∷◌, ◌++◌, length, get_or, map, take, count_by, cond, Bool, true, false, refl, sym, ap, ◌∙◌, arith, Contains, get_or-set_other, get_or-set_same}
use Rattle.std.specs.List.{list_any}
use lib.ListN.{set}
use Rattle.std.proofs.lemmas.Bool.{eqb-true, ne_eqb}
use Rattle.std.proofs.lemmas.Bool.Decides.{eqb_tells}
use Rattle.std.proofs.lemmas.List.Sums.{sum_by-cons, count_by_more_yes, count_by_more_no}
use Rattle.pk_plan.specs.Shape.{has}

pub same_or_not : (m n : ℕ) → (m ≡ n) ⊎ (m ≢ n)
same_or_not m n = elim (eqb_tells m n) [ inl same ↦ inl same.1 | inr other ↦ inr other.1 ]

pub equals_itself : (n : ℕ) → (n == n) ≡ true
equals_itself n = elim (eqb_tells n n) [ inl same ↦ same.0 | inr other ↦ absurd (other.1 refl) ]

-- what stands in a list
pub has_of : (xs : List ℕ) (e : ℕ) → Contains xs e → has e xs ≡ true
has_of [] e h = absurd (omega (arith, h.1))
has_of (x ∷ xs) e (zero, in_range, is) = by_same is
  where
    by_same : x ≡ e → ((e == x) || has e xs) ≡ true
    by_same same = rw (ap (λ (y : ℕ). e == y) same ∙ equals_itself e) refl
has_of (x ∷ xs) e (suc k, in_range, is) = by_either (e == x) (has_of xs e (k, omega (arith, in_range), is))
  where
    by_either : (t : Bool) → has e xs ≡ true → (t || has e xs) ≡ true
    by_either true h = refl
    by_either false h = h

pub of_has : (xs : List ℕ) (e : ℕ) → has e xs ≡ true → Contains xs e
of_has [] e h = absurd (cc)
of_has (x ∷ xs) e h = by_test (e == x) refl h (of_has xs e)
  where
    by_test : (t : Bool) → (e == x) ≡ t → (t || has e xs) ≡ true → (has e xs ≡ true → Contains xs e) → Contains (x ∷ xs) e
    by_test true q h ih = (zero, omega arith, sym (eqb-true e x q))
    by_test false q h ih = let later = ih h in (suc later.0, omega (arith, later.1), later.2)

pub has_append : (xs ys : List ℕ) (e : ℕ) → has e (xs ++ ys) ≡ (has e xs || has e ys)
has_append [] ys e = refl
has_append (x ∷ xs) ys e = by_test (e == x) (has_append xs ys e)
  where
    by_test : (t : Bool) → has e (xs ++ ys) ≡ (has e xs || has e ys) → (t || has e (xs ++ ys)) ≡ ((t || has e xs) || has e ys)
    by_test true ih = refl
    by_test false ih = ih

-- tests that agree on a list
pub any_same : (f g : ℕ → Bool) (xs : List ℕ) → ((k : ℕ) → k < length xs → f (get_or xs k 0) ≡ g (get_or xs k 0)) → list_any f xs ≡ list_any g xs
any_same f g [] same = refl
any_same f g (x ∷ xs) same = λ k. (same 0 (omega arith) k) || (any_same f g xs (λ i h. same (suc i) (omega (arith, h))) k)

pub count_same : (f g : ℕ → Bool) (xs : List ℕ) → ((k : ℕ) → k < length xs → f (get_or xs k 0) ≡ g (get_or xs k 0)) → count_by f xs ≡ count_by g xs
count_same f g [] same = refl
count_same f g (x ∷ xs) same =
    let here : f x ≡ g x = same 0 (omega arith) in
    let later : count_by f xs ≡ count_by g xs = count_same f g xs (λ k h. same (suc k) (omega (arith, h))) in
    omega (arith, sum_by-cons (λ (y : ℕ). cond (f y) 1 0) x xs, sum_by-cons (λ (y : ℕ). cond (g y) 1 0) x xs, ap {B = ℕ} (λ (c : Bool). cond c 1 0) here, later)

-- what passes at a list's images
pub count_map : {X : Type 0} (f : X → Bool) (g : ℕ → X) (xs : List ℕ) → count_by f (map g xs) ≡ count_by (λ x. f (g x)) xs
count_map f g [] = refl
count_map f g (x ∷ xs) = omega (arith, sum_by-cons (λ y. cond (f y) 1 0) (g x) (map g xs), sum_by-cons (λ (y : ℕ). cond (f (g y)) 1 0) x xs, count_map f g xs)

-- one more is counted at its key
pub counted_more : {X : Type 0} (key : X → ℕ) (counts : List ℕ) (xs : List X) (i m : ℕ) (d : X) → i < length xs → key (get_or xs i d) < length counts
    → ((u : ℕ) → u < length counts → get_or counts u 0 ≡ count_by (λ x. key x == u) (take i xs)) → m ≡ get_or counts (key (get_or xs i d)) 0 + 1
    → (u : ℕ) → u < length counts → get_or (set counts (key (get_or xs i d)) m) u 0 ≡ count_by (λ x. key x == u) (take (i + 1) xs)
counted_more key counts xs i m d h low each is u in_range = elim (same_or_not u (key (get_or xs i d))) [
  | inl same ↦ (
      let t = key (get_or xs i d) in
      let at : get_or (set counts t m) t 0 ≡ m = get_or-set_same counts t m 0 low in
      let after = count_by_more_yes (λ x. key x == t) xs i d h (equals_itself t) in
      let whole : get_or (set counts t m) t 0 ≡ count_by (λ x. key x == t) (take (i + 1) xs) = omega (arith, at, each t low, after, is) in
      rw same whole)
  | inr other ↦ (
      let t = key (get_or xs i d) in
      let kept : get_or (set counts t m) u 0 ≡ get_or counts u 0 = get_or-set_other counts t u m 0 other in
      let none = count_by_more_no (λ x. key x == u) xs i d h (ne_eqb t u (λ e. other (sym e))) in
      omega (arith, kept, each u in_range, none))
]
