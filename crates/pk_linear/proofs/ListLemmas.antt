-- Elements of lists, and lists in two parts.
use Rattle.std.proofs.Common.{◌≡◌, ◌≢◌, ◌⊎◌, ℕ, zero, suc, ◌<◌, List, [], ◌∷◌, ◌++◌, length, get_or, refl, sym, ap, subst, ◌∙◌, inl, inr, arith, Contains, AllPairs}
use Rattle.std.proofs.lemmas.Bool.{cases_eq, cases_lt}
use Rattle.std.proofs.lemmas.List.{get_or_append_left, length_push, get_or_push}
use Rattle.std.proofs.lemmas.List.Elements.{Contains-append_right, Contains-get_or}

pub contains_none : {X : Type 0} {x : X} → Contains [] x → ⊥
contains_none has = absurd (omega (arith, has.1))

pub contains_here : {X : Type 0} (x : X) (xs : List X) → Contains (x ∷ xs) x
contains_here x xs = (0, omega arith, refl)

pub contains_there : {X : Type 0} (y : X) (xs : List X) {x : X} → Contains xs x → Contains (y ∷ xs) x
contains_there y xs has = (suc has.0, omega (arith, has.1), has.2)

pub contains_cases : {X : Type 0} (y x : X) (xs : List X) → Contains (y ∷ xs) x → (y ≡ x) ⊎ Contains xs x
contains_cases {X} y x xs has = by_index has.0 has.1 has.2
  where
    by_index : (k : ℕ) → k < suc (length xs) → get_or (y ∷ xs) k x ≡ x → (y ≡ x) ⊎ Contains xs x
    by_index zero within found = inl found
    by_index (suc k) within found = inr (k, omega arith, found)

-- an element stands between a part before it and a part after it
pub record IsSplit {X : Type 0} (xs : List X) (x : X) : Type 0 where
  pub before : List X
  pub after : List X
  pub is : xs ≡ before ++ x ∷ after

pub split_at : {X : Type 0} (xs : List X) (x : X) → Contains xs x → IsSplit xs x
split_at [] x has = absurd (contains_none has)
split_at (y ∷ xs) x has = elim (contains_cases y x xs has) [
  | inl same ↦ record { before = []; after = xs; is = ap (λ z. z ∷ xs) same }
  | inr more ↦ let s = split_at xs x more in record { before = y ∷ s.before; after = s.after; is = ap (λ zs. y ∷ zs) s.is }
]

pub contains_between : {X : Type 0} (before after : List X) (x : X) → Contains (before ++ x ∷ after) x
contains_between before after x = Contains-append_right before (x ∷ after) x (contains_here x after)

-- whether a number is in a list
pub is_or_is_not : (xs : List ℕ) (x : ℕ) → Contains xs x ⊎ (Contains xs x → ⊥)
is_or_is_not [] x = inr (λ has. contains_none has)
is_or_is_not (y ∷ xs) x = elim (cases_eq y x) [
  | inl same ↦ inl (subst (λ (z : ℕ). Contains (y ∷ xs) z) same (contains_here y xs))
  | inr other ↦ elim (is_or_is_not xs x) [
    | inl more ↦ inl (contains_there y xs more)
    | inr none ↦ inr (λ has. elim (contains_cases y x xs has) [ inl same ↦ other same | inr more ↦ none more ])
  ]
]

-- a place of a list with one more element is a place of the list, or the last
pub push_split : {X : Type 0} (xs before after : List X) (x y : X) → xs ++ x ∷ [] ≡ before ++ y ∷ after
    → ((xs ≡ before) × (x ≡ y) × (after ≡ [])) ⊎ ((more : List X) × (after ≡ more ++ x ∷ []) × (xs ≡ before ++ y ∷ more))
push_split [] [] [] x y e = inl (refl, cc, refl)
push_split [] [] (a ∷ after) x y e = absurd (cc)
push_split [] (b ∷ []) after x y e = absurd (cc)
push_split [] (b ∷ c ∷ before) after x y e = absurd (cc)
push_split (z ∷ xs) [] after x y e = inr (xs, cc, cc)
push_split (z ∷ xs) (b ∷ before) after x y e =
    let tails : xs ++ x ∷ [] ≡ before ++ y ∷ after = cc in
    let heads : z ≡ b = cc in
    elim (push_split xs before after x y tails) [
      | inl end ↦ inl ((let same : xs ≡ before = end.0 in cc), end.1, end.2)
      | inr inner ↦ inr (inner.0, inner.1, (let same : xs ≡ before ++ y ∷ inner.0 = inner.2 in cc))
    ]

-- a prefix of a list with one more element is all of it, or a prefix of the list
pub push_append : {X : Type 0} (xs before after : List X) (x : X) → xs ++ x ∷ [] ≡ before ++ after
    → ((after ≡ []) × (before ≡ xs ++ x ∷ [])) ⊎ ((more : List X) × (after ≡ more ++ x ∷ []) × (xs ≡ before ++ more))
push_append xs [] after x e = inr (xs, sym e, refl)
push_append [] (b ∷ []) after x e = inl (cc, cc)
push_append [] (b ∷ c ∷ before) after x e = absurd (cc)
push_append (z ∷ xs) (b ∷ before) after x e =
    let tails : xs ++ x ∷ [] ≡ before ++ after = cc in
    let heads : z ≡ b = cc in
    elim (push_append xs before after x tails) [
      | inl end ↦ inl (end.0, (let same : before ≡ xs ++ x ∷ [] = end.1 in cc))
      | inr inner ↦ inr (inner.0, inner.1, (let same : xs ≡ before ++ inner.0 = inner.2 in cc))
    ]

pub nil_of_append : {X : Type 0} (before after : List X) → before ++ after ≡ [] → before ≡ []
nil_of_append [] after e = refl
nil_of_append (b ∷ before) after e = absurd (cc)

pub nil_is_not : {X : Type 0} (before after : List X) (x : X) → [] ≡ before ++ x ∷ after → ⊥
nil_is_not [] after x e = cc
nil_is_not (b ∷ before) after x e = cc

-- one more number, which is none of those before it
pub pairs_push : (xs : List ℕ) (x : ℕ) → AllPairs (λ a b. a ≢ b) xs → (Contains xs x → ⊥) → AllPairs (λ a b. a ≢ b) (xs ++ x ∷ [])
pairs_push xs x differ none = λ i j d less within. elim (cases_lt j (length xs)) [
  | inl inner ↦
      let at_i : get_or (xs ++ x ∷ []) i d ≡ get_or xs i d = get_or_append_left xs (x ∷ []) d i (omega (arith, less, inner)) in
      let at_j : get_or (xs ++ x ∷ []) j d ≡ get_or xs j d = get_or_append_left xs (x ∷ []) d j inner in
      λ same. differ i j d less inner (sym at_i ∙ same ∙ at_j)
  | inr last ↦
      let long = length_push xs x in
      let at_i : get_or (xs ++ x ∷ []) i d ≡ get_or xs i d = get_or_append_left xs (x ∷ []) d i (omega (arith, less, within, long)) in
      let at_j : get_or (xs ++ x ∷ []) j d ≡ x = get_or_push xs x d j (omega (arith, last, within, long)) in
      λ same. none (subst (Contains xs) (sym at_i ∙ same ∙ at_j) (Contains-get_or xs i d (omega (arith, less, within, long))))
]
