-- Reading, writing and merging lists in rows.
use Rattle.std.specs.Prelude.{◌≡◌, ◌⊎◌, Bool, true, false, if◌then◌else◌, nat_lt, ℕ, zero, suc, ◌+◌, ◌-◌, ◌*◌, ◌/◌, ◌%◌, ◌<◌, ◌≤◌, List, [], ◌∷◌, ◌++◌, length, slice_get, Some, replicate}
use Rattle.std.proofs.Common.{◌∙◌, ap, refl, sym, subst, inl, inr, arith, get_or, set, take, length-append, append_assoc}
use Rattle.std.proofs.lemmas.List.{set-append_left, set-append_right, append-nil, length-take, take_more, take_all}
use Rattle.std.proofs.lemmas.List.Elements.{All-head, All-tail, All-set, All-nil, All-cons, All-append, All-take}
use Rattle.std.proofs.lemmas.Bool.Decides.{nat_tests}
use Rattle.pk_blocks.specs.Rows.{flat, AreRows, merged_from, group_size}
use Rattle.pk_blocks.proofs.Merging.{merged-append, merged_length}

-- the rows are of n items
abbrev Long : {A : Type 0} → ℕ → List A → Type 0
Long n b = length b ≡ n

pub flat_length : {A : Type 0} (n : ℕ) (bs : List (List A)) → AreRows n bs → length (flat bs) ≡ length bs * n
flat_length n [] h = omega arith
flat_length {A} n (b ∷ bs) h =
    omega (arith, length-append b (flat bs), flat_length n bs (All-tail (λ (c : List A). length c ≡ n) b bs h), All-head (λ (c : List A). length c ≡ n) b bs h)

get_left : {A : Type 0} (xs ys : List A) (i : ℕ) → i < length xs → slice_get (xs ++ ys) i ≡ slice_get xs i
get_left [] ys i p = absurd (omega arith)
get_left (x ∷ xs) ys zero p = refl
get_left (x ∷ xs) ys (suc i) p = get_left xs ys i (omega arith)

get_right : {A : Type 0} (xs ys : List A) (i k : ℕ) → i ≡ length xs + k → slice_get (xs ++ ys) i ≡ slice_get ys k
get_right [] ys i k e = let same : i ≡ k = omega arith in ap (slice_get ys) same
get_right (x ∷ xs) ys zero k e = absurd (omega arith)
get_right (x ∷ xs) ys (suc i) k e = get_right xs ys i k (omega arith)

-- the item of a row
pub read_at : {A : Type 0} (n : ℕ) (bs : List (List A)) (i j r : ℕ) (b : List A) (x : A) → AreRows n bs → i ≡ j * n + r → j < length bs → r < n → b ≡ get_or bs j b → slice_get b r ≡ Some x → slice_get (flat bs) i ≡ Some x
read_at n [] i j r b x h e p q d g = absurd (omega arith)
read_at {A} n (a ∷ bs) i zero r b x h e p q d g =
    let size : length a ≡ n = All-head (λ (c : List A). length c ≡ n) a bs h in
    let same : i ≡ r = omega arith in
    get_left a (flat bs) i (omega arith) ∙ ap (slice_get a) same ∙ ap (λ c. slice_get c r) (sym d) ∙ g
read_at {A} n (a ∷ bs) i (suc j) r b x h e p q d g =
    let size : length a ≡ n = All-head (λ (c : List A). length c ≡ n) a bs h in
    get_right a (flat bs) i (j * n + r) (omega arith) ∙ read_at n bs (j * n + r) j r b x (All-tail (λ (c : List A). length c ≡ n) a bs h) refl (omega arith) q d g

-- the same, whether there is an item or not
pub read_row : {A : Type 0} (n : ℕ) (bs : List (List A)) (i j r : ℕ) (b : List A) → AreRows n bs → i ≡ j * n + r → j < length bs → r < n → b ≡ get_or bs j b → slice_get (flat bs) i ≡ slice_get b r
read_row n [] i j r b h e p q d = absurd (omega arith)
read_row {A} n (a ∷ bs) i zero r b h e p q d =
    let size : length a ≡ n = All-head (λ (c : List A). length c ≡ n) a bs h in
    let same : i ≡ r = omega arith in
    get_left a (flat bs) i (omega arith) ∙ ap (slice_get a) same ∙ ap (λ c. slice_get c r) (sym d)
read_row {A} n (a ∷ bs) i (suc j) r b h e p q d =
    let size : length a ≡ n = All-head (λ (c : List A). length c ≡ n) a bs h in
    get_right a (flat bs) i (j * n + r) (omega arith) ∙ read_row n bs (j * n + r) j r b (All-tail (λ (c : List A). length c ≡ n) a bs h) refl (omega arith) q d

-- an item written in its row
pub write_at : {A : Type 0} (n : ℕ) (bs : List (List A)) (i j r : ℕ) (b : List A) (x : A) → AreRows n bs → i ≡ j * n + r → j < length bs → r < n → b ≡ get_or bs j b → flat (set bs j (set b r x)) ≡ set (flat bs) i x
write_at n [] i j r b x h e p q d = absurd (omega arith)
write_at {A} n (a ∷ bs) i zero r b x h e p q d =
    let size : length a ≡ n = All-head (λ (c : List A). length c ≡ n) a bs h in
    let same : r ≡ i = omega arith in
    ap (λ c. set c r x ++ flat bs) d ∙ ap (λ k. set a k x ++ flat bs) same ∙ sym (set-append_left a (flat bs) i x (omega arith))
write_at {A} n (a ∷ bs) i (suc j) r b x h e p q d =
    let size : length a ≡ n = All-head (λ (c : List A). length c ≡ n) a bs h in
    let past : n ≤ i = omega arith in
    let less : i - n ≡ j * n + r = omega arith in
    ap (λ t. a ++ t) (write_at n bs (i - n) j r b x (All-tail (λ (c : List A). length c ≡ n) a bs h) less (omega arith) q d)
    ∙ sym (set-append_right a (flat bs) n i x size past)

pub row_long : {A : Type 0} (n : ℕ) (bs : List (List A)) (j : ℕ) (b : List A) → AreRows n bs → j < length bs → b ≡ get_or bs j b → length b ≡ n
row_long n bs j b h p d = subst (λ c. length c ≡ n) (sym d) (h j b p)

pub rows_set : {A : Type 0} (n : ℕ) (bs : List (List A)) (j : ℕ) (b : List A) → AreRows n bs → length b ≡ n → AreRows n (set bs j b)
rows_set {A} n bs j b h e = All-set (λ (c : List A). length c ≡ n) bs j b e h

pub flat-append : {A : Type 0} (bs : List (List A)) (b : List A) → flat (bs ++ b ∷ []) ≡ flat bs ++ b
flat-append [] b = append-nil b
flat-append (c ∷ bs) b = ap (λ t. c ++ t) (flat-append bs b) ∙ sym (append_assoc c (flat bs) b)

pub rows_more : {A : Type 0} (n : ℕ) (bs : List (List A)) (b : List A) → AreRows n bs → length b ≡ n → AreRows n (bs ++ b ∷ [])
rows_more {A} n bs b h e = All-append (λ (c : List A). length c ≡ n) bs (b ∷ []) h (All-cons (λ (c : List A). length c ≡ n) b [] e (All-nil (λ (c : List A). length c ≡ n)))

pub rows_none : {A : Type 0} (n : ℕ) → AreRows n (let e : List (List A) = [] in e)
rows_none {A} n = All-nil (λ (c : List A). length c ≡ n)

-- ---- so many rows are merged

pub record AreMerged {A : Type 0} (n : ℕ) (f : ℕ → A → A → A) (i : ℕ) (out xs ys : List (List A)) (k : ℕ) : Type 0 where
  pub rows : AreRows n out
  pub count : length out ≡ k
  pub items : flat out ≡ merged_from f i (flat (take k xs)) (flat (take k ys))

pub merged_none : {A : Type 0} (n : ℕ) (f : ℕ → A → A → A) (i : ℕ) (xs ys : List (List A)) → AreMerged n f i [] xs ys 0
merged_none {A} n f i xs ys = record { rows = rows_none {A = A} n; count = refl; items = refl }

taken_length : {A : Type 0} (n k : ℕ) (xs : List (List A)) → AreRows n xs → k < length xs → length (flat (take k xs)) ≡ k * n
taken_length {A} n k xs h p =
    let size : length (take k xs) ≡ k = omega (arith, length-take k xs, p) in
    flat_length n (take k xs) (All-take (λ (c : List A). length c ≡ n) k xs h) ∙ ap (λ m. m * n) size

pub merged_row : {A : Type 0} (n : ℕ) (f : ℕ → A → A → A) (i j k : ℕ) (out xs ys : List (List A)) (x y z : List A) → AreMerged n f i out xs ys k → AreRows n xs → AreRows n ys → k < length xs → k < length ys
    → x ≡ get_or xs k x → y ≡ get_or ys k y → j ≡ i + k * n → z ≡ merged_from f j x y → AreMerged n f i (out ++ z ∷ []) xs ys (k + 1)
merged_row {A} n f i j k out xs ys x y z m p q u v d e at is =
    let lx = row_long n xs k x p u d in
    let ly = row_long n ys k y q v e in
    let tx : take (k + 1) xs ≡ take k xs ++ x ∷ [] = take_more xs k x u ∙ ap (λ t. take k xs ++ t ∷ []) (sym d) in
    let ty : take (k + 1) ys ≡ take k ys ++ y ∷ [] = take_more ys k y v ∙ ap (λ t. take k ys ++ t ∷ []) (sym e) in
    let sx = taken_length n k xs p u in
    let sy = taken_length n k ys q v in
    record {
      rows = rows_more n out z m.rows (ap length is ∙ merged_length f j x y (lx ∙ sym ly) ∙ lx);
      count = omega (arith, length-append out (z ∷ []), m.count);
      items =
          flat-append out z ∙ ap (λ t. t ++ z) m.items ∙ ap (λ t. merged_from f i (flat (take k xs)) (flat (take k ys)) ++ t) is
          ∙ sym (merged-append f i j (flat (take k xs)) (flat (take k ys)) x y (sx ∙ sym sy) (omega (arith, at, sx)))
          ∙ ap (λ t. merged_from f i t (flat (take k ys) ++ y)) (sym (flat-append (take k xs) x) ∙ ap flat (sym tx))
          ∙ ap (λ t. merged_from f i (flat (take (k + 1) xs)) t) (sym (flat-append (take k ys) y) ∙ ap flat (sym ty));
    }

pub merged_all : {A : Type 0} (n : ℕ) (f : ℕ → A → A → A) (i k : ℕ) (out xs ys : List (List A)) → AreMerged n f i out xs ys k → length xs ≤ k → length ys ≤ k → flat out ≡ merged_from f i (flat xs) (flat ys)
merged_all n f i k out xs ys m p q = m.items ∙ ap (λ t. merged_from f i (flat t) (flat (take k ys))) (take_all k xs p) ∙ ap (λ t. merged_from f i (flat xs) (flat t)) (take_all k ys q)

-- one row more that stayed
pub kept_row : {A : Type 0} (k : ℕ) (out xs : List (List A)) (x z : List A) → out ≡ take k xs → k < length xs → x ≡ get_or xs k x → z ≡ x → out ++ z ∷ [] ≡ take (k + 1) xs
kept_row k out xs x z h u d e = ap (λ t. t ++ z ∷ []) h ∙ ap (λ t. take k xs ++ t ∷ []) (e ∙ d) ∙ sym (take_more xs k x u)

-- ---- rows that are alike

pub rows_filled : {A : Type 0} (n m : ℕ) (b : List A) → length b ≡ n → AreRows n (replicate m b)
rows_filled {A} n zero b h = rows_none {A = A} n
rows_filled {A} n (suc m) b h = All-cons (λ (c : List A). length c ≡ n) b (replicate m b) h (rows_filled n m b h)

replicate-append : {A : Type 0} (m n : ℕ) (x : A) → replicate m x ++ replicate n x ≡ replicate (m + n) x
replicate-append zero n x = let same : n ≡ 0 + n = omega arith in ap (λ k. replicate k x) same
replicate-append (suc m) n x = let same : suc (m + n) ≡ suc m + n = omega arith in ap (λ t. x ∷ t) (replicate-append m n x) ∙ ap (λ k. replicate k x) same

pub flat-replicate : {A : Type 0} (m n : ℕ) (x : A) → flat (replicate m (replicate n x)) ≡ replicate (m * n) x
flat-replicate zero n x = let same : 0 ≡ 0 * n = omega arith in ap (λ k. replicate k x) same
flat-replicate (suc m) n x =
    let same : n + m * n ≡ suc m * n = omega arith in
    ap (λ t. replicate n x ++ t) (flat-replicate m n x) ∙ replicate-append n (m * n) x ∙ ap (λ k. replicate k x) same

-- ---- a list that is the first items of its rows

pub get_taken : {A : Type 0} (n : ℕ) (xs : List A) (i : ℕ) → i < n → slice_get (take n xs) i ≡ slice_get xs i
get_taken zero xs i p = absurd (omega arith)
get_taken (suc n) [] i p = refl
get_taken (suc n) (x ∷ xs) zero p = refl
get_taken (suc n) (x ∷ xs) (suc i) p = get_taken n xs i (omega arith)

pub set_taken : {A : Type 0} (n : ℕ) (xs : List A) (i : ℕ) (x : A) → take n (set xs i x) ≡ set (take n xs) i x
set_taken zero xs i x = refl
set_taken (suc n) [] i x = refl
set_taken (suc n) (y ∷ xs) zero x = refl
set_taken (suc n) (y ∷ xs) (suc i) x = ap (λ t. y ∷ t) (set_taken n xs i x)

-- ---- groups

-- few items are in one group, and more in groups of 512
one_or_full : (n : ℕ) → ((n < 512) × (group_size n ≡ (n / 16 + 1) * 16)) ⊎ ((512 ≤ n) × (group_size n ≡ 512))
one_or_full n = by (nat_lt n 512) refl
  where
    by : (b : Bool) → nat_lt n 512 ≡ b → ((n < 512) × ((if b then (n / 16 + 1) * 16 else 512) ≡ (n / 16 + 1) * 16)) ⊎ ((512 ≤ n) × ((if b then (n / 16 + 1) * 16 else 512) ≡ 512))
    by true e = inl (grind (arith, nat_tests), refl)
    by false e = inr (grind (arith, nat_tests), refl)

-- where an item stands: its group, and its place there
pub record IsPlaced (n i : ℕ) : Type 0 where
  pub at : i ≡ i / 512 * group_size n + i % 512
  pub group : i / 512 < n / 512 + 1
  pub place : i % 512 < group_size n

pub placed : (n i : ℕ) → i < n → IsPlaced n i
placed n i p = record { at = at (one_or_full n); group = omega (arith, p); place = place (one_or_full n) }
  where
    at : ((n < 512) × (group_size n ≡ (n / 16 + 1) * 16)) ⊎ ((512 ≤ n) × (group_size n ≡ 512)) → i ≡ i / 512 * group_size n + i % 512
    at (inl h) =
        let none : i / 512 ≡ 0 = omega (arith, p, h.0) in
        let own : i ≡ 0 * group_size n + i % 512 = omega (arith, p, h.0) in
        own ∙ ap (λ q. q * group_size n + i % 512) (sym none)
    at (inr h) = let own : i ≡ i / 512 * 512 + i % 512 = omega arith in own ∙ ap (λ s. i / 512 * s + i % 512) (sym h.1)

    place : ((n < 512) × (group_size n ≡ (n / 16 + 1) * 16)) ⊎ ((512 ≤ n) × (group_size n ≡ 512)) → i % 512 < group_size n
    place (inl h) = omega (arith, p, h.0, h.1)
    place (inr h) = omega (arith, h.1)

-- the groups have room for all
pub enough : (n : ℕ) → n ≤ (n / 512 + 1) * group_size n
enough n = by (one_or_full n)
  where
    by : ((n < 512) × (group_size n ≡ (n / 16 + 1) * 16)) ⊎ ((512 ≤ n) × (group_size n ≡ 512)) → n ≤ (n / 512 + 1) * group_size n
    by (inl h) =
        let one : n / 512 + 1 ≡ 1 = omega (arith, h.0) in
        let own : n ≤ 1 * group_size n = omega (arith, h.0, h.1) in
        subst (λ k. n ≤ k * group_size n) (sym one) own
    by (inr h) = let own : n ≤ (n / 512 + 1) * 512 = omega arith in subst (λ s. n ≤ (n / 512 + 1) * s) (sym h.1) own

-- where a group begins
pub begins : (n k : ℕ) → k < n / 512 + 1 → k * 512 ≡ 0 + k * group_size n
begins n k p = by (one_or_full n)
  where
    by : ((n < 512) × (group_size n ≡ (n / 16 + 1) * 16)) ⊎ ((512 ≤ n) × (group_size n ≡ 512)) → k * 512 ≡ 0 + k * group_size n
    by (inl h) = let none : k ≡ 0 = omega (arith, p, h.0) in let own : 0 * 512 ≡ 0 + 0 * group_size n = omega arith in subst (λ j. j * 512 ≡ 0 + j * group_size n) (sym none) own
    by (inr h) = let own : k * 512 ≡ 0 + k * 512 = omega arith in own ∙ ap (λ s. 0 + k * s) (sym h.1)

pub most : (n : ℕ) → group_size n ≤ 512
most n = by (one_or_full n)
  where
    by : ((n < 512) × (group_size n ≡ (n / 16 + 1) * 16)) ⊎ ((512 ≤ n) × (group_size n ≡ 512)) → group_size n ≤ 512
    by (inl h) = omega (arith, h.0, h.1)
    by (inr h) = omega (arith, h.1)

pub taken_size : {A : Type 0} (count : ℕ) (bs : List (List A)) → AreRows (group_size count) bs → length bs ≡ count / 512 + 1 → length (take count (flat bs)) ≡ count
taken_size count bs h e =
    let size : length (flat bs) ≡ (count / 512 + 1) * group_size count = flat_length (group_size count) bs h ∙ ap (λ k. k * group_size count) e in
    omega (arith, length-take count (flat bs), size, enough count)

pub replicate_taken : {A : Type 0} (n m : ℕ) (x : A) → n ≤ m → take n (replicate m x) ≡ replicate n x
replicate_taken zero m x p = refl
replicate_taken (suc n) zero x p = absurd (omega arith)
replicate_taken (suc n) (suc m) x p = ap (λ t. x ∷ t) (replicate_taken n m x (omega arith))
