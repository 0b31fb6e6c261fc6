-- Lists in rows, as one list.
use Rattle.std.specs.Prelude.{◌≡◌, ℕ, ◌+◌, ◌*◌, ◌/◌, nat_lt, if◌then◌else◌, List, [], ◌∷◌, ◌++◌, All, length}

-- the rows' items, one row after another
abbrev pub flat : {A : Type 0} → List (List A) → List A
flat [] = []
flat (b ∷ bs) = b ++ flat bs

-- each row has n items
abbrev pub AreRows : {A : Type 0} → ℕ → List (List A) → Type 0
AreRows n bs = All (λ b. length b ≡ n) bs

-- f of each two items and their place, which is counted from i
abbrev pub merged_from : {A : Type 0} → (ℕ → A → A → A) → ℕ → List A → List A → List A
merged_from f i [] ys = []
merged_from f i (x ∷ xs) [] = []
merged_from f i (x ∷ xs) (y ∷ ys) = f i x y ∷ merged_from f (i + 1) xs ys

-- f below a place, and the left item from there on
abbrev pub below : {A : Type 0} → ℕ → (ℕ → A → A → A) → ℕ → A → A → A
below n f i x y = if nat_lt i n then f i x y else x

-- how many items a group of a list of n has: 512, or where there are fewer so many rows of 16 as hold them
abbrev pub group_size : ℕ → ℕ
group_size n = if nat_lt n 512 then (n / 16 + 1) * 16 else 512
