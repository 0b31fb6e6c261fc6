-- Numbers among others, and their places.
use Rattle.std.proofs.Common.{◌≡◌, ◌≢◌, ◌<◌, ◌≤◌, ◌+◌, ℕ, zero, suc, refl, ap, ◌∙◌, sym, subst, nat_eq, Bool, true, false, ◌||◌, if◌then◌else◌, ◌⊎◌, inl, inr, List, [], ◌∷◌, ◌++◌, length, slice_index_or, take, arith}
use Rattle.std.proofs.lemmas.Bool.Decides.{eqb_tells}
use Rattle.pk_number.specs.Preorders.{is_among, place_among}
use Rattle.pk_number.specs.Rows.{IsDistinct, AreBelow}

pub true_or_false : (b : Bool) → (b ≡ true) ⊎ (b ≡ false)
true_or_false true = inl refl
true_or_false false = inr refl

or_true : (b : Bool) → (b || true) ≡ true
or_true true = refl
or_true false = refl

same : (n : ℕ) → nat_eq n n ≡ true
same n = told (eqb_tells n n)
  where
    told : ((nat_eq n n ≡ true) × (n ≡ n)) ⊎ ((nat_eq n n ≡ false) × (n ≢ n)) → nat_eq n n ≡ true
    told (inl e) = e.0
    told (inr e) = absurd (e.1 refl)

pub among_here : (n : ℕ) (ms : List ℕ) → is_among n (n ∷ ms) ≡ true
among_here n ms = ap (λ (b : Bool). b || is_among n ms) (same n)

pub among_there : (n m : ℕ) (ms : List ℕ) → is_among n ms ≡ true → is_among n (m ∷ ms) ≡ true
among_there n m ms h = ap (λ (b : Bool). nat_eq n m || b) h ∙ or_true (nat_eq n m)

pub among_cases : (n m : ℕ) (ms : List ℕ) → is_among n (m ∷ ms) ≡ true → (n ≡ m) ⊎ (is_among n ms ≡ true)
among_cases n m ms h = told (eqb_tells n m)
  where
    told : ((nat_eq n m ≡ true) × (n ≡ m)) ⊎ ((nat_eq n m ≡ false) × (n ≢ m)) → (n ≡ m) ⊎ (is_among n ms ≡ true)
    told (inl e) = inl e.1
    told (inr e) = inr (ap (λ (b : Bool). b || is_among n ms) (sym e.0) ∙ h)

pub not_among : (n m : ℕ) (ms : List ℕ) → is_among n ms ≡ false → n ≢ m → is_among n (m ∷ ms) ≡ false
not_among n m ms h d = told (eqb_tells n m)
  where
    told : ((nat_eq n m ≡ true) × (n ≡ m)) ⊎ ((nat_eq n m ≡ false) × (n ≢ m)) → is_among n (m ∷ ms) ≡ false
    told (inl e) = absurd (d e.1)
    told (inr e) = ap (λ (b : Bool). b || is_among n ms) e.0 ∙ h

pub among_append : (n : ℕ) (xs ys : List ℕ) → is_among n (xs ++ ys) ≡ is_among n xs || is_among n ys
among_append n [] ys = refl
among_append n (x ∷ xs) ys = ap (λ (b : Bool). nat_eq n x || b) (among_append n xs ys) ∙ grouped (nat_eq n x) (is_among n xs) (is_among n ys)
  where
    grouped : (a b c : Bool) → (a || (b || c)) ≡ ((a || b) || c)
    grouped true b c = refl
    grouped false b c = refl

pub among_left : (n : ℕ) (xs ys : List ℕ) → is_among n xs ≡ true → is_among n (xs ++ ys) ≡ true
among_left n xs ys h = among_append n xs ys ∙ ap (λ (b : Bool). b || is_among n ys) h

pub among_right : (n : ℕ) (xs ys : List ℕ) → is_among n ys ≡ true → is_among n (xs ++ ys) ≡ true
among_right n xs ys h = among_append n xs ys ∙ ap (λ (b : Bool). is_among n xs || b) h ∙ or_true (is_among n xs)

pub among_either : (n : ℕ) (xs ys : List ℕ) → is_among n (xs ++ ys) ≡ true → (is_among n xs ≡ true) ⊎ (is_among n ys ≡ true)
among_either n [] ys h = inr h
among_either n (x ∷ xs) ys h = told (among_cases n x (xs ++ ys) h) (among_either n xs ys)
  where
    told : (n ≡ x) ⊎ (is_among n (xs ++ ys) ≡ true) → (is_among n (xs ++ ys) ≡ true → (is_among n xs ≡ true) ⊎ (is_among n ys ≡ true))
        → (is_among n (x ∷ xs) ≡ true) ⊎ (is_among n ys ≡ true)
    told (inl e) f = inl (ap (λ (m : ℕ). is_among m (x ∷ xs)) e ∙ among_here x xs)
    told (inr e) f = further (f e)
      where
        further : (is_among n xs ≡ true) ⊎ (is_among n ys ≡ true) → (is_among n (x ∷ xs) ≡ true) ⊎ (is_among n ys ≡ true)
        further (inl g) = inl (among_there n x xs g)
        further (inr g) = inr g

pub among_at : (xs : List ℕ) (k d : ℕ) → k < length xs → is_among (slice_index_or xs k d) xs ≡ true
among_at [] k d h = absurd (omega (arith, h))
among_at (x ∷ xs) zero d h = among_here x xs
among_at (x ∷ xs) (suc k) d h = among_there (slice_index_or xs k d) x xs (among_at xs k d (omega (arith, h)))

-- ---- places

pub place_inside : (xs : List ℕ) (n : ℕ) → is_among n xs ≡ true → place_among xs n < length xs
place_inside [] n h = absurd (cc)
place_inside (x ∷ xs) n h = told (eqb_tells n x) (place_inside xs n)
  where
    told : ((nat_eq n x ≡ true) × (n ≡ x)) ⊎ ((nat_eq n x ≡ false) × (n ≢ x)) → (is_among n xs ≡ true → place_among xs n < length xs) → place_among (x ∷ xs) n < length (x ∷ xs)
    told (inl e) f = subst (λ (b : Bool). (if b then 0 else suc (place_among xs n)) < suc (length xs)) (sym e.0) (omega arith)
    told (inr e) f =
        let further : place_among xs n < length xs = f (ap (λ (b : Bool). b || is_among n xs) (sym e.0) ∙ h) in
        subst (λ (b : Bool). (if b then 0 else suc (place_among xs n)) < suc (length xs)) (sym e.0) (omega (arith, further))

pub at_place : (xs : List ℕ) (n d : ℕ) → is_among n xs ≡ true → slice_index_or xs (place_among xs n) d ≡ n
at_place [] n d h = absurd (cc)
at_place (x ∷ xs) n d h = told (eqb_tells n x) (at_place xs n d)
  where
    told : ((nat_eq n x ≡ true) × (n ≡ x)) ⊎ ((nat_eq n x ≡ false) × (n ≢ x)) → (is_among n xs ≡ true → slice_index_or xs (place_among xs n) d ≡ n) → slice_index_or (x ∷ xs) (place_among (x ∷ xs) n) d ≡ n
    told (inl e) f = ap (λ (b : Bool). slice_index_or (x ∷ xs) (if b then 0 else suc (place_among xs n)) d) e.0 ∙ sym e.1
    told (inr e) f =
        ap (λ (b : Bool). slice_index_or (x ∷ xs) (if b then 0 else suc (place_among xs n)) d) e.0
        ∙ f (ap (λ (b : Bool). b || is_among n xs) (sym e.0) ∙ h)

-- ---- lists without a number twice

both_false : (a b : Bool) → a ≡ false → b ≡ false → (a || b) ≡ false
both_false a b e f = ap (λ (c : Bool). c || b) e ∙ f

apart : (x y : ℕ) (ys : List ℕ) → is_among x ys ≡ false → is_among y ys ≡ true → y ≢ x
apart x y ys e f g = cc (ap (λ (n : ℕ). is_among n ys) g, e, f)

pub distinct_push : (xs : List ℕ) (n : ℕ) → IsDistinct xs → is_among n xs ≡ false → IsDistinct (xs ++ n ∷ [])
distinct_push [] n d h = (refl, tt)
distinct_push (x ∷ xs) n d h =
    (among_append x xs (n ∷ []) ∙ both_false (is_among x xs) (is_among x (n ∷ [])) d.0 (not_among x n [] refl other), distinct_push xs n d.1 (further (true_or_false (is_among n xs))))
  where
    other : x ≢ n
    other e = cc (among_here n xs, ap (λ (m : ℕ). is_among n (m ∷ xs)) e, h)

    further : (is_among n xs ≡ true) ⊎ (is_among n xs ≡ false) → is_among n xs ≡ false
    further (inl e) = absurd (cc (among_there n x xs e, h))
    further (inr e) = e

pub place_at : (xs : List ℕ) (k d : ℕ) → IsDistinct xs → k < length xs → place_among xs (slice_index_or xs k d) ≡ k
place_at [] k d u h = absurd (omega (arith, h))
place_at (x ∷ xs) zero d u h = ap (λ (b : Bool). if b then 0 else suc (place_among xs x)) (same x)
place_at (x ∷ xs) (suc k) d u h =
    let y : ℕ = slice_index_or xs k d in
    ap (λ (b : Bool). if b then 0 else suc (place_among xs y)) (other y (among_at xs k d (omega (arith, h))))
    ∙ ap suc (place_at xs k d u.1 (omega (arith, h)))
  where
    other : (y : ℕ) → is_among y xs ≡ true → nat_eq y x ≡ false
    other y f = told (eqb_tells y x)
      where
        told : ((nat_eq y x ≡ true) × (y ≡ x)) ⊎ ((nat_eq y x ≡ false) × (y ≢ x)) → nat_eq y x ≡ false
        told (inl e) = absurd (apart x y xs u.0 f e.1)
        told (inr e) = e.0

-- a number stands once
pub not_before : (xs : List ℕ) (k d : ℕ) → IsDistinct xs → k < length xs → is_among (slice_index_or xs k d) (take k xs) ≡ false
not_before [] k d u h = absurd (omega (arith, h))
not_before (x ∷ xs) zero d u h = refl
not_before (x ∷ xs) (suc k) d u h =
    not_among (slice_index_or xs k d) x (take k xs) (not_before xs k d u.1 (omega (arith, h)))
    (apart x (slice_index_or xs k d) xs u.0 (among_at xs k d (omega (arith, h))))

-- ---- numbers below a bound

pub below_head : (m x : ℕ) (xs : List ℕ) → AreBelow m (x ∷ xs) → x < m
below_head m x xs h = h x (among_here x xs)

pub below_tail : (m x : ℕ) (xs : List ℕ) → AreBelow m (x ∷ xs) → AreBelow m xs
below_tail m x xs h n e = h n (among_there n x xs e)

pub below_both : (m : ℕ) (xs ys : List ℕ) → AreBelow m xs → AreBelow m ys → AreBelow m (xs ++ ys)
below_both m xs ys f g n e = told (among_either n xs ys e)
  where
    told : (is_among n xs ≡ true) ⊎ (is_among n ys ≡ true) → n < m
    told (inl h) = f n h
    told (inr h) = g n h

pub below_one : (m x : ℕ) → x < m → AreBelow m (x ∷ [])
below_one m x h n e = told (among_cases n x [] e)
  where
    told : (n ≡ x) ⊎ (false ≡ true) → n < m
    told (inl f) = subst (λ (k : ℕ). k < m) (sym f) h
    told (inr f) = absurd (cc)

pub below_none : (m : ℕ) → AreBelow m []
below_none m n e = absurd (cc)

-- how many numbers below m aren't among these
abbrev pub absent : ℕ → List ℕ → ℕ
absent zero xs = 0
absent (suc m) xs = (if is_among m xs then 0 else 1) + absent m xs

absent_far : (m n : ℕ) (xs : List ℕ) → m ≤ n → absent m (xs ++ n ∷ []) ≡ absent m xs
absent_far zero n xs h = refl
absent_far (suc m) n xs h =
    ap (λ (b : Bool). (if b then 0 else 1) + absent m (xs ++ n ∷ [])) (among_append m xs (n ∷ []) ∙ ap (λ (b : Bool). is_among m xs || b) (not_among m n [] refl (λ e. omega (arith, e, h))) ∙ or_false (is_among m xs))
    ∙ ap (λ (k : ℕ). (if is_among m xs then 0 else 1) + k) (absent_far m n xs (omega (arith, h)))
  where
    or_false : (b : Bool) → (b || false) ≡ b
    or_false true = refl
    or_false false = refl

pub absent_less : (m n : ℕ) (xs : List ℕ) → n < m → is_among n xs ≡ false → absent m xs ≡ suc (absent m (xs ++ n ∷ []))
absent_less zero n xs h e = absurd (omega (arith, h))
absent_less (suc m) n xs h e = told (eqb_tells m n) (absent_less m n xs)
  where
    or_false : (b : Bool) → (b || false) ≡ b
    or_false true = refl
    or_false false = refl

    told : ((nat_eq m n ≡ true) × (m ≡ n)) ⊎ ((nat_eq m n ≡ false) × (m ≢ n)) → (n < m → is_among n xs ≡ false → absent m xs ≡ suc (absent m (xs ++ n ∷ []))) → absent (suc m) xs ≡ suc (absent (suc m) (xs ++ n ∷ []))
    told (inl f) g =
        let before : is_among m xs ≡ false = ap (λ (k : ℕ). is_among k xs) f.1 ∙ e in
        let after : is_among m (xs ++ n ∷ []) ≡ true = among_right m xs (n ∷ []) (ap (λ (k : ℕ). is_among k (n ∷ [])) f.1 ∙ among_here n []) in
        let far : absent m (xs ++ n ∷ []) ≡ absent m xs = absent_far m n xs (omega (arith, f.1)) in
        ap (λ (b : Bool). (if b then 0 else 1) + absent m xs) before
        ∙ count (absent m xs) (absent m (xs ++ n ∷ [])) far
        ∙ ap (λ (b : Bool). suc ((if b then 0 else 1) + absent m (xs ++ n ∷ []))) (sym after)
      where
        count : (a b : ℕ) → b ≡ a → 1 + a ≡ suc (0 + b)
        count a b q = omega (arith, q)
    told (inr f) g =
        let here : is_among m (xs ++ n ∷ []) ≡ is_among m xs = among_append m xs (n ∷ []) ∙ ap (λ (b : Bool). is_among m xs || b) (not_among m n [] refl f.1) ∙ or_false (is_among m xs) in
        ap (λ (k : ℕ). (if is_among m xs then 0 else 1) + k) (g (omega (arith, h, f.1)) e)
        ∙ count (if is_among m xs then 0 else 1) (absent m (xs ++ n ∷ []))
        ∙ ap (λ (b : Bool). suc ((if b then 0 else 1) + absent m (xs ++ n ∷ []))) (sym here)
      where
        count : (a b : ℕ) → a + suc b ≡ suc (a + b)
        count a b = omega arith
