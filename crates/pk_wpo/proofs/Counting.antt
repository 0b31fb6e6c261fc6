-- A list without repetition is as long as the numbers that it has.
use Rattle.std.proofs.Common.{◌≡◌, ◌≢◌, ℕ, zero, suc, ◌<◌, ◌≤◌, ◌==◌, cond, List, [], ◌∷◌, inl, inr, length, get_or, sym, arith, ap, ◌∙◌}
use Rattle.std.proofs.lemmas.Bool.Decides.{eqb_tells}
use Rattle.pk_wpo.specs.Layouts.{Laid, end_number}
use Rattle.pk_wpo.proofs.Sequences.{Member, member_at, different_at}
use Rattle.pk_wpo.proofs.Placed.{listed_in, NestOf, element_listed_of, listed_below_of, listed_differ_of}

-- no more numbers go, each to another, than there are places
pub pigeonhole : (n m : ℕ) (f : ℕ → ℕ) → ((i : ℕ) → i < m → f i < n) → ((i j : ℕ) → i < j → j < m → f i ≡ f j → ⊥) → m ≤ n
pigeonhole zero zero f below apart = omega arith
pigeonhole zero (suc m) f below apart = absurd (let first = below 0 (omega arith) in omega (arith, first))
pigeonhole (suc n) zero f below apart = omega arith
pigeonhole (suc n) (suc m) f below apart =
    let last = f m in
    let last_below : last < suc n = below m (omega arith) in
    let moved : ℕ → ℕ = λ i. cond (f i == n) last (f i) in
    let fewer : m ≤ n = pigeonhole n m moved
    (λ i h. elim (eqb_tells (f i) n) [
      | inl same ↦ rw same.0 (let other : f i ≢ last = apart i m h (omega arith) in let is = same.1 in omega (arith, other, is, last_below))
      | inr differ ↦ rw differ.0 (let b = below i (omega (arith, h)) in let ne = differ.1 in omega (arith, b, ne))
    ])
    (λ i j less h. elim (eqb_tells (f i) n) [
      | inl same ↦ elim (eqb_tells (f j) n) [
        | inl same' ↦ absurd (apart i j less (omega (arith, h)) (same.1 ∙ sym same'.1))
        | inr differ' ↦ rw (same.0, differ'.0) (λ equal. apart j m h (omega arith) (sym equal))
      ]
      | inr differ ↦ elim (eqb_tells (f j) n) [
        | inl same' ↦ rw (differ.0, same'.0) (λ equal. apart i m (omega (arith, less, h)) (omega arith) equal)
        | inr differ' ↦ rw (differ.0, differ'.0) (λ equal. apart i j less (omega (arith, h)) equal)
      ]
    ]) in
    omega (arith, fewer)

-- where an element stands first
index_in : List ℕ → ℕ → ℕ
index_in [] e = 0
index_in (x ∷ xs) e = cond (e == x) 0 (suc (index_in xs e))

index_tells : (xs : List ℕ) (e : ℕ) → Member xs e → (index_in xs e < length xs) × (get_or xs (index_in xs e) 0 ≡ e)
unfolding index_in
index_tells [] e m = absurd m
index_tells (x ∷ xs) e m = elim (eqb_tells e x) [
  | inl same ↦ rw same.0 (omega arith, sym same.1)
  | inr differ ↦ rw differ.0 (elim m [
    | inl equal ↦ absurd (differ.1 equal)
    | inr later ↦ let tells = index_tells xs e later in let below = tells.0 in (omega (arith, below), tells.1)
  ])
]

-- there are as many elements below END as END's number
pub as_many : (l : Laid) → NestOf l → length (listed_in l) ≡ end_number l
as_many l nest =
    let xs = listed_in l in
    let few : length xs ≤ end_number l = pigeonhole (end_number l) (length xs) (λ i. get_or xs i 0)
    (λ i h. listed_below_of l (get_or xs i 0) nest (member_at xs i h))
    (λ i j less h same. different_at xs i j (listed_differ_of l nest) less h same) in
    let many : end_number l ≤ length xs = pigeonhole (length xs) (end_number l) (index_in xs)
    (λ e h. (index_tells xs e (element_listed_of l e nest h)).0)
    (λ a b less h same.
    let at_a = (index_tells xs a (element_listed_of l a nest (omega (arith, less, h)))).1 in
    let at_b = (index_tells xs b (element_listed_of l b nest h)).1 in
    let equal : a ≡ b = sym at_a ∙ ap (λ (k : ℕ). get_or xs k 0) same ∙ at_b in
    omega (arith, equal, less)) in
    omega (arith, few, many)
