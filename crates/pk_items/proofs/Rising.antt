-- Lists of numbers in rising order.
use Rattle.std.proofs.Common.{◌≡◌, ◌≢◌, ℕ, zero, suc, ◌+◌, ◌<◌, ◌≤◌, ◌==◌, ◌⊎◌, inl, inr, List, [], ◌∷◌, length, get_or, filter, count_by, cond, Bool, true, false, refl, ap, sym, ◌∙◌, arith}
use Rattle.std.specs.List.{AllPairs, range_with_len}
use Rattle.std.specs.List.Sorted.{IsStrictlyIncreasing, IsNonDecreasing, IsPermutation}
use Rattle.std.proofs.lemmas.List.Sorted.{sum_by-IsPermutation}
use Rattle.std.proofs.lemmas.List.FromFn.{get_or-range_with_len, length-range_with_len}
use Rattle.pk_plan.specs.Shape.{has}
use Rattle.pk_core.proofs.Basics.{cases, same, itself, or_right, neq, count_cons}
use Rattle.pk_core.proofs.Plan_shapes.{has_of, of_has, rising_rest}

-- ---- what a list has

pub has_cases : (u x : ℕ) (xs : List ℕ) → has u (x ∷ xs) ≡ true → (u ≡ x) ⊎ (has u xs ≡ true)
has_cases u x xs h = elim (cases (u == x)) [
  | inl q ↦ inl (same u x q)
  | inr q ↦ inr (rw q at h)
]

pub has_later : (u x : ℕ) (xs : List ℕ) → has u xs ≡ true → has u (x ∷ xs) ≡ true
has_later u x xs h = or_right (u == x) (has u xs) h

pub has_filter : (f : ℕ → Bool) (u : ℕ) (xs : List ℕ) → has u (filter f xs) ≡ true → (f u ≡ true) × (has u xs ≡ true)
has_filter f u [] h = absurd (cc)
has_filter f u (x ∷ xs) h = by (f x) refl (has_filter f u xs)
  where
    by : (t : Bool) → f x ≡ t → (has u (filter f xs) ≡ true → (f u ≡ true) × (has u xs ≡ true)) → (f u ≡ true) × (has u (x ∷ xs) ≡ true)
    by true q rest = elim (has_cases u x (filter f xs) (rw q at h)) [
      | inl is ↦ (ap f is ∙ q, (let r = ap (λ (k : ℕ). k == x) is ∙ itself x in rw r refl))
      | inr more ↦ (let r = rest more in (r.0, has_later u x xs r.1))
    ]
    by false q rest = let r = rest (rw q at h) in (r.0, has_later u x xs r.1)

pub filter_has : (f : ℕ → Bool) (u : ℕ) (xs : List ℕ) → f u ≡ true → has u xs ≡ true → has u (filter f xs) ≡ true
filter_has f u [] p h = absurd (cc)
filter_has f u (x ∷ xs) p h = elim (has_cases u x xs h) [
  | inl is ↦ (let q : f x ≡ true = ap f (sym is) ∙ p in let r = ap (λ (k : ℕ). k == x) is ∙ itself x in rw (q, r) refl)
  | inr more ↦ kept (f x) refl (filter_has f u xs p more)
]
  where
    kept : (t : Bool) → f x ≡ t → has u (filter f xs) ≡ true → has u (filter f (x ∷ xs)) ≡ true
    kept true q r = rw q (has_later u x (filter f xs) r)
    kept false q r = rw q r

pub range_has : (n u : ℕ) → u < n → has u (range_with_len 0 n) ≡ true
range_has n u l = has_of u (range_with_len 0 n) (let at = get_or-range_with_len 0 n u u l in let long = length-range_with_len 0 n in (u, omega (arith, long, l), omega (arith, at)))

pub has_range : (n u : ℕ) → has u (range_with_len 0 n) ≡ true → u < n
has_range n u h =
    let c = of_has u (range_with_len 0 n) h in
    let long = length-range_with_len 0 n in
    let at = get_or-range_with_len 0 n c.0 u (omega (arith, c.1, long)) in
    omega (arith, c.1, long, at, c.2)

-- ---- rising lists with the same numbers are the same

above_first : (x : ℕ) (xs : List ℕ) (u : ℕ) → IsStrictlyIncreasing (x ∷ xs) → has u xs ≡ true → x < u
above_first x [] u rise h = absurd (cc)
above_first x (y ∷ ys) u rise h =
    let up : x < y = rise 0 (omega arith) in
    elim (has_cases u y ys h) [
      | inl is ↦ omega (arith, is, up)
      | inr more ↦ (let r = above_first y ys u (rising_rest x (y ∷ ys) rise) more in omega (arith, r, up))
    ]

pub rising_same : (xs ys : List ℕ) → IsStrictlyIncreasing xs → IsStrictlyIncreasing ys → ((u : ℕ) → has u xs ≡ true → has u ys ≡ true) → ((u : ℕ) → has u ys ≡ true → has u xs ≡ true) → xs ≡ ys
rising_same [] [] rise rise' to of = refl
rising_same [] (y ∷ ys) rise rise' to of = absurd (let h = of y (let r = itself y in rw r refl) in cc)
rising_same (x ∷ xs) [] rise rise' to of = absurd (let h = to x (let r = itself x in rw r refl) in cc)
rising_same (x ∷ xs) (y ∷ ys) rise rise' to of =
    let first : x ≡ y = heads (has_cases x y ys (to x (let r = itself x in rw r refl))) (has_cases y x xs (of y (let r = itself y in rw r refl))) in
    ap (λ (z : ℕ). z ∷ xs) first ∙ ap (λ (zs : List ℕ). y ∷ zs) (rising_same xs ys (rising_rest x xs rise) (rising_rest y ys rise')
    (λ u h. elim (has_cases u y ys (to u (has_later u x xs h))) [
      | inl is ↦ absurd (let l = above_first x xs u rise h in omega (arith, l, is, first))
      | inr more ↦ more
    ])
    (λ u h. elim (has_cases u x xs (of u (has_later u y ys h))) [
      | inl is ↦ absurd (let l = above_first y ys u rise' h in omega (arith, l, is, first))
      | inr more ↦ more
    ]))
  where
    heads : (x ≡ y) ⊎ (has x ys ≡ true) → (y ≡ x) ⊎ (has y xs ≡ true) → x ≡ y
    heads (inl e) other = e
    heads (inr m) (inl e) = sym e
    heads (inr m) (inr n) = absurd (let k = above_first y ys x rise' m in let l = above_first x xs y rise n in omega (arith, k, l))

pub range_rises : (n : ℕ) → IsStrictlyIncreasing (range_with_len 0 n)
range_rises n k l =
    let long = length-range_with_len 0 n in
    let at = get_or-range_with_len 0 n k 0 (omega (arith, l, long)) in
    let next = get_or-range_with_len 0 n (k + 1) 0 (omega (arith, l, long)) in
    omega (arith, at, next)

-- ---- what is sorted, and has each number once, rises

abbrev pub Once : List ℕ → Type 0
Once xs = (u : ℕ) → count_by (λ w. w == u) xs ≤ 1

pub sorted_rises : (xs : List ℕ) → IsNonDecreasing xs → Once xs → IsStrictlyIncreasing xs
sorted_rises xs up once k l =
    let le = up k (k + 1) 0 (omega arith) l in
    elim (cases (get_or xs k 0 == get_or xs (k + 1) 0)) [
      | inl q ↦ absurd (let t : 2 ≤ count_by (λ w. w == get_or xs (k + 1) 0) xs = twice xs k (get_or xs (k + 1) 0) l (same (get_or xs k 0) (get_or xs (k + 1) 0) q) refl in let o : count_by (λ w. w == get_or xs (k + 1) 0) xs ≤ 1 = once (get_or xs (k + 1) 0) in omega (arith, t, o))
      | inr q ↦ (let ne = apart (get_or xs k 0) (get_or xs (k + 1) 0) q in omega (arith, le, ne))
    ]
  where
    apart : (m n : ℕ) → (m == n) ≡ false → m ≢ n
    apart m n q e = absurd (let z : (m == m) ≡ false = ap (λ (j : ℕ). m == j) e ∙ q in let r = itself m in cc)

    twice : (xs : List ℕ) (k u : ℕ) → k + 1 < length xs → get_or xs k 0 ≡ u → get_or xs (k + 1) 0 ≡ u → 2 ≤ count_by (λ w. w == u) xs
    twice [] k u l at next = absurd (omega (arith, l))
    twice (x ∷ []) k u l at next = absurd (omega (arith, l))
    twice (x ∷ (y ∷ ys)) zero u l at next =
        let a : (x == u) ≡ true = ap (λ (j : ℕ). j == u) at ∙ itself u in
        let b : (y == u) ≡ true = ap (λ (j : ℕ). j == u) next ∙ itself u in
        let c = count_cons (λ w. w == u) x (y ∷ ys) in
        let d = count_cons (λ w. w == u) y ys in
        let e : cond (x == u) 1 0 ≡ suc zero = ap (λ (t : Bool). cond t 1 0) a in
        let f : cond (y == u) 1 0 ≡ suc zero = ap (λ (t : Bool). cond t 1 0) b in
        omega (arith, c, d, e, f)
    twice (x ∷ (y ∷ ys)) (suc k) u l at next =
        let r = twice (y ∷ ys) k u (omega (arith, l)) at (ap (λ (n : ℕ). get_or (x ∷ (y ∷ ys)) n 0) (let e : suc (k + 1) ≡ suc k + 1 = omega arith in e) ∙ next) in
        let c = count_cons (λ w. w == u) x (y ∷ ys) in
        omega (arith, c, r)

pub once_permuted : (xs ys : List ℕ) → IsPermutation xs ys → Once xs → Once ys
once_permuted xs ys moved once u = let e = sum_by-IsPermutation (λ (w : ℕ). cond (w == u) 1 0) xs ys moved in let o = once u in omega (arith, e, o)

-- each number is other than all later ones
pub once_by_pairs : (xs : List ℕ) → AllPairs (λ a b. a ≢ b) xs → Once xs
once_by_pairs [] pairs u = omega arith
once_by_pairs (x ∷ xs) pairs u =
    let c = count_cons (λ w. w == u) x xs in
    let rest = once_by_pairs xs (λ i j d l in_range. pairs (suc i) (suc j) d (omega (arith, l)) (omega (arith, in_range))) u in
    elim (cases (x == u)) [
      | inl q ↦
          let none : count_by (λ w. w == u) xs ≡ 0 = none_same xs (λ k l. λ e. pairs 0 (suc k) 0 (omega arith) (omega (arith, l)) (same x u q ∙ sym e)) in
          let e : cond (x == u) 1 0 ≡ suc zero = ap (λ (t : Bool). cond t 1 0) q in
          omega (arith, c, none, e)
      | inr q ↦
          let e : cond (x == u) 1 0 ≡ zero = ap (λ (t : Bool). cond t 1 0) q in
          omega (arith, c, rest, e)
    ]
  where
    none_same : (ys : List ℕ) → ((k : ℕ) → k < length ys → get_or ys k 0 ≢ u) → count_by (λ w. w == u) ys ≡ 0
    none_same [] other = refl
    none_same (y ∷ ys) other =
        let c = count_cons (λ w. w == u) y ys in
        let q : (y == u) ≡ false = neq y u (other 0 (omega arith)) in
        let e : cond (y == u) 1 0 ≡ zero = ap (λ (t : Bool). cond t 1 0) q in
        let r = none_same ys (λ k l. other (suc k) (omega (arith, l))) in
        omega (arith, c, e, r)
