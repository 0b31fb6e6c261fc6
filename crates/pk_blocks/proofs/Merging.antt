-- Merging item by item.
use Rattle.std.specs.Prelude.{◌≡◌, Bool, true, false, ℕ, zero, suc, ◌+◌, ◌<◌, ◌≤◌, nat_lt, if◌then◌else◌, List, [], ◌∷◌, ◌++◌, length}
use Rattle.std.proofs.Common.{◌∙◌, ap, refl, arith, get_or, take, add-zero}
use Rattle.std.proofs.lemmas.Bool.Decides.{nat_tests}
use Rattle.pk_blocks.specs.Rows.{merged_from, below}

-- one pair more
pub merged_more : {A : Type 0} (f : ℕ → A → A → A) (i : ℕ) (xs ys : List A) (k : ℕ) (x y : A) → k < length xs → length xs ≡ length ys → x ≡ get_or xs k x → y ≡ get_or ys k y
    → merged_from f i (take k xs) (take k ys) ++ f (i + k) x y ∷ [] ≡ merged_from f i (take (suc k) xs) (take (suc k) ys)
merged_more f i [] ys k x y p e d g = absurd (omega arith)
merged_more f i (u ∷ xs) [] k x y p e d g = absurd (omega arith)
merged_more f i (u ∷ xs) (v ∷ ys) zero x y p e d g = ap (λ j. f j x y ∷ []) (add-zero i) ∙ ap (λ z. f i z y ∷ []) d ∙ ap (λ z. f i u z ∷ []) g
merged_more f i (u ∷ xs) (v ∷ ys) (suc k) x y p e d g =
    let place : i + suc k ≡ (i + 1) + k = omega arith in
    ap (λ j. f i u v ∷ (merged_from f (i + 1) (take k xs) (take k ys) ++ f j x y ∷ [])) place
    ∙ ap (λ t. f i u v ∷ t) (merged_more f (i + 1) xs ys k x y (omega arith) (omega arith) d g)

pub merged-append : {A : Type 0} (f : ℕ → A → A → A) (i j : ℕ) (xs us ys vs : List A) → length xs ≡ length us → j ≡ i + length xs → merged_from f i (xs ++ ys) (us ++ vs) ≡ merged_from f i xs us ++ merged_from f j ys vs
merged-append f i j [] [] ys vs e h = let same : i ≡ j = omega arith in ap (λ k. merged_from f k ys vs) same
merged-append f i j [] (u ∷ us) ys vs e h = absurd (omega arith)
merged-append f i j (x ∷ xs) [] ys vs e h = absurd (omega arith)
merged-append f i j (x ∷ xs) (u ∷ us) ys vs e h = ap (λ t. f i x u ∷ t) (merged-append f (i + 1) j xs us ys vs (omega arith) (omega arith))

pub merged_length : {A : Type 0} (f : ℕ → A → A → A) (i : ℕ) (xs ys : List A) → length xs ≡ length ys → length (merged_from f i xs ys) ≡ length xs
merged_length f i [] ys e = refl
merged_length f i (x ∷ xs) [] e = absurd (omega arith)
merged_length f i (x ∷ xs) (y ∷ ys) e = omega (arith, merged_length f (i + 1) xs ys (omega arith))

pub merged-take : {A : Type 0} (f : ℕ → A → A → A) (i n : ℕ) (xs ys : List A) → merged_from f i (take n xs) (take n ys) ≡ take n (merged_from f i xs ys)
merged-take f i zero xs ys = refl
merged-take f i (suc n) [] ys = refl
merged-take f i (suc n) (x ∷ xs) [] = refl
merged-take f i (suc n) (x ∷ xs) (y ∷ ys) = ap (λ t. f i x y ∷ t) (merged-take f (i + 1) n xs ys)

-- ---- merging below a place

pub merged_below : {A : Type 0} (n : ℕ) (f : ℕ → A → A → A) (i : ℕ) (xs ys : List A) → i + length xs ≤ n → merged_from (below n f) i xs ys ≡ merged_from f i xs ys
merged_below n f i [] ys p = refl
merged_below n f i (x ∷ xs) [] p = refl
merged_below n f i (x ∷ xs) (y ∷ ys) p =
    let yes : nat_lt i n ≡ true = grind (arith, p, nat_tests) in
    ap (λ b. (if b then f i x y else x) ∷ merged_from (below n f) (i + 1) xs ys) yes ∙ ap (λ t. f i x y ∷ t) (merged_below n f (i + 1) xs ys (omega (arith, p)))

pub merged_beyond : {A : Type 0} (n : ℕ) (f : ℕ → A → A → A) (i : ℕ) (xs ys : List A) → n ≤ i → length xs ≡ length ys → merged_from (below n f) i xs ys ≡ xs
merged_beyond n f i [] ys p e = refl
merged_beyond n f i (x ∷ xs) [] p e = absurd (omega (arith, e))
merged_beyond n f i (x ∷ xs) (y ∷ ys) p e =
    let no : nat_lt i n ≡ false = grind (arith, p, nat_tests) in
    ap (λ b. (if b then f i x y else x) ∷ merged_from (below n f) (i + 1) xs ys) no ∙ ap (λ t. x ∷ t) (merged_beyond n f (i + 1) xs ys (omega (arith, p)) (omega (arith, e)))

pub merged_first : {A : Type 0} (n c : ℕ) (f : ℕ → A → A → A) (i : ℕ) (xs ys : List A) → i + c ≤ n → take c (merged_from (below n f) i xs ys) ≡ take c (merged_from f i xs ys)
merged_first n zero f i xs ys p = refl
merged_first n (suc c) f i [] ys p = refl
merged_first n (suc c) f i (x ∷ xs) [] p = refl
merged_first n (suc c) f i (x ∷ xs) (y ∷ ys) p =
    let yes : nat_lt i n ≡ true = grind (arith, p, nat_tests) in
    ap (λ b. (if b then f i x y else x) ∷ take c (merged_from (below n f) (i + 1) xs ys)) yes ∙ ap (λ t. f i x y ∷ t) (merged_first n c f (i + 1) xs ys (omega (arith, p)))

pub never : (b : Bool) → b ≡ false → b ≡ true → ⊥
never true e f = absurd (cc)
never false e f = absurd (cc)
