-- What stands before what in a list without repetition.
use Rattle.std.proofs.Common.{◌≡◌, ℕ, zero, suc, ◌<◌, List, [], ◌∷◌, ◌++◌, ◌⊎◌, inl, inr, length, get_or, sym, subst, arith, refl}

-- an element of a list
abbrev pub Member : List ℕ → ℕ → Type 0
Member [] y = ⊥
Member (z ∷ zs) y = (y ≡ z) ⊎ Member zs y

-- a stands before b
abbrev pub Before : List ℕ → ℕ → ℕ → Type 0
Before [] a b = ⊥
Before (x ∷ xs) a b = ((a ≡ x) × Member xs b) ⊎ Before xs a b

-- no element stands twice
abbrev pub Different : List ℕ → Type 0
Different [] = Unit {0}
Different (x ∷ xs) = (Member xs x → ⊥) × Different xs

pub member_left : (xs ys : List ℕ) (a : ℕ) → Member xs a → Member (xs ++ ys) a
member_left [] ys a h = absurd h
member_left (x ∷ xs) ys a (inl e) = inl e
member_left (x ∷ xs) ys a (inr m) = inr (member_left xs ys a m)

pub member_right : (xs ys : List ℕ) (a : ℕ) → Member ys a → Member (xs ++ ys) a
member_right [] ys a h = h
member_right (x ∷ xs) ys a h = inr (member_right xs ys a h)

pub member_either : (xs ys : List ℕ) (a : ℕ) → Member (xs ++ ys) a → Member xs a ⊎ Member ys a
member_either [] ys a h = inr h
member_either (x ∷ xs) ys a (inl e) = inl (inl e)
member_either (x ∷ xs) ys a (inr m) = elim (member_either xs ys a m) [ inl l ↦ inl (inr l) | inr r ↦ inr r ]

pub before_left : (xs ys : List ℕ) (a b : ℕ) → Before xs a b → Before (xs ++ ys) a b
before_left [] ys a b h = absurd h
before_left (x ∷ xs) ys a b (inl h) = inl (h.0, member_left xs ys b h.1)
before_left (x ∷ xs) ys a b (inr h) = inr (before_left xs ys a b h)

pub before_right : (xs ys : List ℕ) (a b : ℕ) → Before ys a b → Before (xs ++ ys) a b
before_right [] ys a b h = h
before_right (x ∷ xs) ys a b h = inr (before_right xs ys a b h)

pub before_across : (xs ys : List ℕ) (a b : ℕ) → Member xs a → Member ys b → Before (xs ++ ys) a b
before_across [] ys a b h m = absurd h
before_across (x ∷ xs) ys a b (inl e) m = inl (e, member_right xs ys b m)
before_across (x ∷ xs) ys a b (inr h) m = inr (before_across xs ys a b h m)

pub different_join : (xs ys : List ℕ) → Different xs → Different ys → ((a : ℕ) → Member xs a → Member ys a → ⊥) → Different (xs ++ ys)
different_join [] ys d e apart = e
different_join (x ∷ xs) ys d e apart = (
  (λ m. elim (member_either xs ys x m) [ inl l ↦ d.0 l | inr r ↦ apart x (inl refl) r ]),
  different_join xs ys d.1 e (λ a l r. apart a (inr l) r),
)

-- the two parts of a list without repetition
pub different_left : (xs ys : List ℕ) → Different (xs ++ ys) → Different xs
different_left [] ys d = tt
different_left (x ∷ xs) ys d = ((λ m. d.0 (member_left xs ys x m)), different_left xs ys d.1)

pub different_right : (xs ys : List ℕ) → Different (xs ++ ys) → Different ys
different_right [] ys d = d
different_right (x ∷ xs) ys d = different_right xs ys d.1

pub different_apart : (xs ys : List ℕ) (a : ℕ) → Different (xs ++ ys) → Member xs a → Member ys a → ⊥
different_apart [] ys a d l r = l
different_apart (x ∷ xs) ys a d (inl e) r = d.0 (member_right xs ys x (subst (λ (y : ℕ). Member ys y) e r))
different_apart (x ∷ xs) ys a d (inr l) r = different_apart xs ys a d.1 l r

-- by indices
pub member_at : (xs : List ℕ) (k : ℕ) → k < length xs → Member xs (get_or xs k 0)
member_at [] k h = absurd (omega arith)
member_at (x ∷ xs) zero h = inl refl
member_at (x ∷ xs) (suc k) h = inr (member_at xs k (omega arith))

pub at_member : (xs : List ℕ) (a : ℕ) → Member xs a → (k : ℕ) × (k < length xs) × (get_or xs k 0 ≡ a)
at_member [] a m = absurd m
at_member (x ∷ xs) a (inl e) = (0, omega arith, sym e)
at_member (x ∷ xs) a (inr m) = let at = at_member xs a m in let below = at.1 in (suc at.0, omega (arith, below), at.2)

pub before_at : (xs : List ℕ) (a b : ℕ) → Before xs a b → (i : ℕ) × (j : ℕ) × (i < j) × (j < length xs) × (get_or xs i 0 ≡ a) × (get_or xs j 0 ≡ b)
before_at [] a b h = absurd h
before_at (x ∷ xs) a b (inl h) = let at = at_member xs b h.1 in let below = at.1 in (0, suc at.0, omega arith, omega (arith, below), sym h.0, at.2)
before_at (x ∷ xs) a b (inr h) =
    let at = before_at xs a b h in
    let less = at.2 in
    let below = at.3 in
    (suc at.0, suc at.1, omega (arith, less), omega (arith, below), at.4, at.5)

pub different_at : (xs : List ℕ) (i j : ℕ) → Different xs → i < j → j < length xs → get_or xs i 0 ≡ get_or xs j 0 → ⊥
different_at [] i j d less below same = absurd (omega arith)
different_at (x ∷ xs) i zero d less below same = absurd (omega arith)
different_at (x ∷ xs) zero (suc j) d less below same = d.0 (subst (λ (y : ℕ). Member xs y) (sym same) (member_at xs j (omega arith)))
different_at (x ∷ xs) (suc i) (suc j) d less below same = different_at xs i j d.1 (omega arith) (omega arith) same
