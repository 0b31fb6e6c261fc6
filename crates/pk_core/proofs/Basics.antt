-- Tests and lists.
use Rattle.std.proofs.Common.{◌≡◌, ◌≢◌, ℕ, ◌+◌, ◌==◌, List, [], ◌∷◌, count_by, cond, Bool, true, false, ◌||◌, not, refl, sym, ap, ◌∙◌, arith, inl, inr, ◌⊎◌}
use Rattle.std.proofs.lemmas.Bool.{eq-eqb, eqb-true}
use Rattle.std.proofs.lemmas.List.Sums.{sum_by-cons}
use Rattle.pk_plan.specs.Shape.{has}
use Rattle.pk_core.specs.Events.{without}

pub or_false : (a b : Bool) → (a || b) ≡ false → (a ≡ false) × (b ≡ false)
or_false true b h = absurd (cc)
or_false false b h = (refl, h)

pub cases : (a : Bool) → (a ≡ true) ⊎ (a ≡ false)
cases true = inl refl
cases false = inr refl

pub not_true : (a : Bool) → (a ≡ true → ⊥) → a ≡ false
not_true true h = absurd (h refl)
not_true false h = refl

pub neq : (m n : ℕ) → m ≢ n → (m == n) ≡ false
neq m n h = not_true (m == n) (λ e. h (eqb-true m n e))

pub same : (m n : ℕ) → (m == n) ≡ true → m ≡ n
same m n h = eqb-true m n h

pub itself : (m : ℕ) → (m == m) ≡ true
itself m = eq-eqb m m refl

pub or_right : (a b : Bool) → b ≡ true → (a || b) ≡ true
or_right true b i = refl
or_right false b i = i

pub count_cons : (f : ℕ → Bool) (x : ℕ) (xs : List ℕ) → count_by f (x ∷ xs) ≡ cond (f x) 1 0 + count_by f xs
count_cons f x xs = sum_by-cons (λ (y : ℕ). cond (f y) 1 0) x xs

none_head : (f : ℕ → Bool) (x u n : ℕ) (h : Bool) (a c : Bool) → f x ≡ a → (u == x) ≡ c → cond a 1 0 + n ≡ 0 → (c || h) ≡ true → (n ≡ 0 → h ≡ true → f u ≡ false) → f u ≡ false
none_head f x u n h true c p q e i ih = absurd (omega arith)
none_head f x u n h false true p q e i ih = ap f (same u x q) ∙ p
none_head f x u n h false false p q e i ih = ih (omega arith) i

-- nothing is counted, so nothing passes
pub none_counted : (f : ℕ → Bool) (xs : List ℕ) (u : ℕ) → count_by f xs ≡ 0 → has u xs ≡ true → f u ≡ false
none_counted f [] u h i = absurd (cc)
none_counted f (x ∷ xs) u h i = none_head f x u (count_by f xs) (has u xs) (f x) (u == x) refl refl (sym (count_cons f x xs) ∙ h) i (none_counted f xs u)

-- the same elements are counted
pub counted_same : (f g : ℕ → Bool) (xs : List ℕ) → ((u : ℕ) → has u xs ≡ true → f u ≡ g u) → count_by f xs ≡ count_by g xs
counted_same f g [] h = refl
counted_same f g (x ∷ xs) h =
    let here : f x ≡ g x = h x (rw (itself x) refl) in
    let there : count_by f xs ≡ count_by g xs = counted_same f g xs (λ u i. h u (or_right (u == x) (has u xs) i)) in
    count_cons f x xs ∙ ap (λ (c : Bool). cond c 1 0 + count_by f xs) here ∙ ap (λ (n : ℕ). cond (g x) 1 0 + n) there ∙ sym (count_cons g x xs)

less_head : (f g : ℕ → Bool) (v x l m n : ℕ) (a : Bool) → (x == v) ≡ a → f v ≡ true → g v ≡ false → (x ≢ v → f x ≡ g x) → l ≡ m + n → cond (f x) 1 0 + l ≡ (cond (g x) 1 0 + m) + (cond a 1 0 + n)
less_head f g v x l m n true q passes fails h ih =
    let fx : f x ≡ true = ap f (same x v q) ∙ passes in
    let gx : g x ≡ false = ap g (same x v q) ∙ fails in
    rw (fx, gx) (omega arith)
less_head f g v x l m n false q passes fails h ih =
    let fx : f x ≡ g x = h (λ e. absurd (let t = eq-eqb x v e in cc)) in
    rw fx (omega arith)

-- one element less is counted
pub counted_less : (f g : ℕ → Bool) (v : ℕ) (xs : List ℕ) → f v ≡ true → g v ≡ false → ((u : ℕ) → u ≢ v → f u ≡ g u) → count_by f xs ≡ count_by g xs + count_by (λ w. w == v) xs
counted_less f g v [] passes fails h = refl
counted_less f g v (x ∷ xs) passes fails h =
    let step = less_head f g v x (count_by f xs) (count_by g xs) (count_by (λ w. w == v) xs) (x == v) refl passes fails (h x) (counted_less f g v xs passes fails h) in
    count_cons f x xs ∙ step ∙ sym (ap (λ (n : ℕ). n + count_by (λ w. w == v) (x ∷ xs)) (count_cons g x xs) ∙ ap (λ (n : ℕ). (cond (g x) 1 0 + count_by g xs) + n) (count_cons (λ w. w == v) x xs))

-- another stays
pub has_without : (v w : ℕ) (xs : List ℕ) → v ≢ w → has v (without w xs) ≡ has v xs
has_without v w [] ne = refl
has_without v w (x ∷ xs) ne = by_head (x == w) refl (has_without v w xs ne)
  where
    by_head : (a : Bool) → (x == w) ≡ a → has v (without w xs) ≡ has v xs → has v (cond (not (x == w)) (x ∷ without w xs) (without w xs)) ≡ has v (x ∷ xs)
    by_head true q ih =
        let at : x ≡ w = same x w q in
        let apart : (v == x) ≡ false = neq v x (λ e. ne (e ∙ at)) in
        rw (q, apart) ih
    by_head false q ih = rw (q, ih) refl

pub has_without_none : (v : ℕ) (xs : List ℕ) → has v (without v xs) ≡ false
has_without_none v [] = refl
has_without_none v (x ∷ xs) = by_head (x == v) refl (has_without_none v xs)
  where
    by_head : (a : Bool) → (x == v) ≡ a → has v (without v xs) ≡ false → has v (cond (not (x == v)) (x ∷ without v xs) (without v xs)) ≡ false
    by_head true q ih = rw q ih
    by_head false q ih =
        let apart : (v == x) ≡ false = neq v x (λ e. absurd (let t = eq-eqb x v (sym e) in cc)) in
        rw (q, apart) ih

pub has_filter : (v w : ℕ) (xs : List ℕ) → has v (without w xs) ≡ true → has v xs ≡ true
has_filter v w xs h = by_same (v == w) refl
  where
    by_same : (a : Bool) → (v == w) ≡ a → has v xs ≡ true
    by_same true q =
        let none : has v (without w xs) ≡ false = ap (λ (k : ℕ). has v (without k xs)) (sym (same v w q)) ∙ has_without_none v xs in
        absurd (cc)
    by_same false q = sym (has_without v w xs (λ e. absurd (let t = eq-eqb v w e in cc))) ∙ h

-- in either order
twice_head : (v w x : ℕ) (xs ys : List ℕ) (a c : Bool) → (x == v) ≡ a → (x == w) ≡ c → xs ≡ ys → cond (not c) (cond (not a) (x ∷ xs) xs) xs ≡ cond (not a) (cond (not c) (x ∷ ys) ys) ys
twice_head v w x xs ys true true p q ih = ih
twice_head v w x xs ys true false p q ih = ih
twice_head v w x xs ys false true p q ih = ih
twice_head v w x xs ys false false p q ih = ap (λ (zs : List ℕ). x ∷ zs) ih

filter_head : (v x : ℕ) (c : Bool) (xs : List ℕ) → without v (cond c (x ∷ xs) xs) ≡ cond c (cond (not (x == v)) (x ∷ without v xs) (without v xs)) (without v xs)
filter_head v x true xs = refl
filter_head v x false xs = refl

pub without_twice : (v w : ℕ) (xs : List ℕ) → without v (without w xs) ≡ without w (without v xs)
without_twice v w [] = refl
without_twice v w (x ∷ xs) =
    filter_head v x (not (x == w)) (without w xs)
    ∙ twice_head v w x (without v (without w xs)) (without w (without v xs)) (x == v) (x == w) refl refl (without_twice v w xs)
    ∙ sym (filter_head w x (not (x == v)) (without v xs))
