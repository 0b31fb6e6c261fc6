-- Lists in rising order, by what they hold.
use Rattle.std.proofs.Common.{◌≡◌, ℕ, suc, ◌<◌, ◌+◌, Bool, cond, List, [], ◌∷◌, ◌⊎◌, inl, inr, get_or, filter, sym, subst, arith, ap, refl, ◌∙◌, Contains}
use Rattle.std.specs.List.{AllPairs}
use Rattle.std.specs.List.Sorted.{IsStrictlyIncreasing}
use Rattle.std.proofs.lemmas.List.{get_or_default}
use Rattle.std.proofs.lemmas.List.Kept.{AllPairs-from_increasing}
use Rattle.pk_wpo.proofs.Sequences.{Member, member_at, at_member}

-- the two words for what a list has
pub contains_member : (xs : List ℕ) (x : ℕ) → Contains xs x → Member xs x
contains_member xs x c = subst (λ (y : ℕ). Member xs y) (get_or_default xs c.0 0 x c.1 ∙ c.2) (member_at xs c.0 c.1)

pub member_contains : (xs : List ℕ) (x : ℕ) → Member xs x → Contains xs x
member_contains xs x m = let at = at_member xs x m in (at.0, at.1, get_or_default xs at.0 x 0 at.1 ∙ at.2)

rising_tail : (x : ℕ) (xs : List ℕ) → IsStrictlyIncreasing (x ∷ xs) → IsStrictlyIncreasing xs
rising_tail x xs rise k below =
    let step : get_or (x ∷ xs) (suc k) 0 < get_or (x ∷ xs) (suc k + 1) 0 = rise (suc k) (omega (arith, below)) in
    let next : get_or (x ∷ xs) (suc k + 1) 0 ≡ get_or xs (k + 1) 0 = ap (λ (n : ℕ). get_or (x ∷ xs) n 0) (let e : suc k + 1 ≡ suc (k + 1) = omega arith in e) in
    omega (arith, step, next)

head_least : (x : ℕ) (xs : List ℕ) (y : ℕ) → IsStrictlyIncreasing (x ∷ xs) → Member xs y → x < y
head_least x xs y rise m =
    let at = at_member xs y m in
    let below = at.1 in
    let pairs : AllPairs (λ (a b : ℕ). a < b) (x ∷ xs) = AllPairs-from_increasing (x ∷ xs) rise in
    let less : x < get_or xs at.0 0 = pairs 0 (suc at.0) 0 (omega arith) (omega (arith, below)) in
    let same = at.2 in
    omega (arith, less, same)

-- they are the same list where they have the same numbers
pub rising_same : (xs ys : List ℕ) → IsStrictlyIncreasing xs → IsStrictlyIncreasing ys → ((x : ℕ) → Member xs x → Member ys x) → ((x : ℕ) → Member ys x → Member xs x) → xs ≡ ys
rising_same [] [] rise rise' to of = refl
rising_same [] (y ∷ ys) rise rise' to of = absurd (of y (inl refl))
rising_same (x ∷ xs) [] rise rise' to of = absurd (to x (inl refl))
rising_same (x ∷ xs) (y ∷ ys) rise rise' to of =
    let same : x ≡ y = heads (to x (inl refl)) (of y (inl refl)) in
    ap (λ (z : ℕ). z ∷ xs) same ∙ ap (λ (zs : List ℕ). y ∷ zs)
    (rising_same xs ys (rising_tail x xs rise) (rising_tail y ys rise')
    (λ z m. elim (to z (inr m)) [
      | inl e ↦ absurd (let less = head_least x xs z rise m in omega (arith, less, e, same))
      | inr n ↦ n
    ])
    (λ z m. elim (of z (inr m)) [
      | inl e ↦ absurd (let less = head_least y ys z rise' m in omega (arith, less, e, same))
      | inr n ↦ n
    ]))
  where
    heads : (x ≡ y) ⊎ Member ys x → (y ≡ x) ⊎ Member xs y → x ≡ y
    heads (inl e) other = e
    heads (inr m) (inl e) = sym e
    heads (inr m) (inr n) = absurd (let one = head_least y ys x rise' m in let two = head_least x xs y rise n in omega (arith, one, two))

-- two tests that agree on a list's numbers keep the same
pub filter_agrees : (p q : ℕ → Bool) (xs : List ℕ) → ((x : ℕ) → Member xs x → p x ≡ q x) → filter p xs ≡ filter q xs
filter_agrees p q [] agree = refl
filter_agrees p q (x ∷ xs) agree =
    ap (λ (b : Bool). cond b (x ∷ filter p xs) (filter p xs)) (agree x (inl refl))
    ∙ ap (λ (ys : List ℕ). cond (q x) (x ∷ ys) ys) (filter_agrees p q xs (λ y m. agree y (inr m)))
