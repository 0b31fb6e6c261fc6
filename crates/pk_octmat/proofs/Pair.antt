-- A matrix of which half is kept, while the two rows of a variable are written.
use Rattle.std.specs.Prelude.{◌≡◌, ◌≢◌, ℕ, ◌<◌, ◌≤◌, ◌+◌, ◌/◌, ◌%◌, ℤ, Option, ◌⊎◌, List, length}
use Rattle.std.proofs.Common.{◌∙◌, ap, refl, sym, subst, arith, inl, inr, set, length-set}
use Rattle.std.proofs.lemmas.Bool.{cases_eq}
use Rattle.pk_octmat.specs.Octagon.{bar}
use Rattle.pk_octmat.specs.Half.{block, kept_at, spot}
use Rattle.pk_octmat.proofs.Half.{kept_set_other, kept_set_same}

pub half_bar : (i : ℕ) → bar i / 2 ≡ i / 2
half_bar i = omega arith

-- a write changes no other bound in the rows of its variable
pub kept_set_own : (d : ℕ) (xs : List (Option ℤ)) (i j a b : ℕ) (x : Option ℤ) → a / 2 ≡ i / 2 → ((a ≡ i) → (b ≡ j) → ⊥) → kept_at d (set xs (spot i j) x) a b ≡ kept_at d xs a b
kept_set_own d xs i j a b x own n = kept_set_other d xs i j a b x n (λ u v w. n (row v w) (column u v w))
  where
    row : b ≡ bar i → a ≢ b → a ≡ i
    row v w = omega (arith, v, w, own)

    column : a ≡ bar j → b ≡ bar i → a ≢ b → b ≡ j
    column u v w = omega (arith, u, v, w, own)

-- nor one between other variables
pub kept_set_away : (d : ℕ) (xs : List (Option ℤ)) (i j a b : ℕ) (x : Option ℤ) → a / 2 ≢ i / 2 → b / 2 ≢ i / 2 → kept_at d (set xs (spot i j) x) a b ≡ kept_at d xs a b
kept_set_away d xs i j a b x m n = kept_set_other d xs i j a b x (λ u v. m (ap (λ k. k / 2) u)) (λ u v w. n (ap (λ k. k / 2) v ∙ half_bar i))

-- the two rows of a variable, written in the columns below j
pub record InPair (d p j : ℕ) (f g : ℕ → Option ℤ) (olds cells : List (Option ℤ)) : Type 0 where
  pub size : length cells ≡ block (d / 2)
  pub first : (b : ℕ) → b < j → b < d → kept_at d cells p b ≡ f b
  pub second : (b : ℕ) → b < j → b < d → kept_at d cells (p + 1) b ≡ g b
  pub own : (a b : ℕ) → a / 2 ≡ p / 2 → j ≤ b → kept_at d cells a b ≡ kept_at d olds a b
  pub rest : (a b : ℕ) → a / 2 ≢ p / 2 → b / 2 ≢ p / 2 → kept_at d cells a b ≡ kept_at d olds a b

pub pair_none : (d p : ℕ) (f g : ℕ → Option ℤ) (cells : List (Option ℤ)) → length cells ≡ block (d / 2) → InPair d p 0 f g cells cells
pair_none d p f g cells size = record { size = size; first = λ b h bd. absurd (omega arith); second = λ b h bd. absurd (omega arith); own = λ a b h g. refl; rest = λ a b m n. refl }

pub pair_more : (d p j : ℕ) (f g : ℕ → Option ℤ) (olds cells news : List (Option ℤ)) → InPair d p j f g olds cells → length news ≡ block (d / 2) → kept_at d news p j ≡ f j → kept_at d news (p + 1) j ≡ g j → p % 2 ≡ 0
    → ((a b : ℕ) → a / 2 ≡ p / 2 → b ≢ j → kept_at d news a b ≡ kept_at d cells a b) → ((a b : ℕ) → a / 2 ≢ p / 2 → b / 2 ≢ p / 2 → kept_at d news a b ≡ kept_at d cells a b)
    → InPair d p (j + 1) f g olds news
pair_more d p j f g olds cells news r size is_first is_second even own others = record {
  size = size;
  first = λ b h bd. first b bd (cases_eq b j) h;
  second = λ b h bd. second b bd (cases_eq b j) h;
  own = λ a b h l. own a b h (λ s. absurd (omega (arith, l, s))) ∙ r.own a b h (omega (arith, l));
  rest = λ a b m n. others a b m n ∙ r.rest a b m n;
}
  where
    next : (p + 1) / 2 ≡ p / 2
    next = omega (arith, even)

    first : (b : ℕ) → b < d → (b ≡ j) ⊎ (b ≢ j) → b < j + 1 → kept_at d news p b ≡ f b
    first b bd (inl s) h = rw s is_first
    first b bd (inr n) h = own p b refl n ∙ r.first b (omega (arith, n, h)) bd

    second : (b : ℕ) → b < d → (b ≡ j) ⊎ (b ≢ j) → b < j + 1 → kept_at d news (p + 1) b ≡ g b
    second b bd (inl s) h = rw s is_second
    second b bd (inr n) h = own (p + 1) b next n ∙ r.second b (omega (arith, n, h)) bd

-- ---- two writes
pub record Paired (d p j : ℕ) (x y : Option ℤ) (olds news : List (Option ℤ)) : Type 0 where
  pub kept : length news ≡ block (d / 2)
  pub first : kept_at d news p j ≡ x
  pub second : kept_at d news (p + 1) j ≡ y
  pub own : (a b : ℕ) → a / 2 ≡ p / 2 → b ≢ j → kept_at d news a b ≡ kept_at d olds a b
  pub others : (a b : ℕ) → a / 2 ≢ p / 2 → b / 2 ≢ p / 2 → kept_at d news a b ≡ kept_at d olds a b

pub paired_from : (d p j k l : ℕ) (xs : List (Option ℤ)) (x y : Option ℤ) → d % 2 ≡ 0 → length xs ≡ block (d / 2) → p + 1 < d → p % 2 ≡ 0 → j < d → k ≡ spot p j → l ≡ spot (p + 1) j → Paired d p j x y xs (set (set xs k x) l y)
paired_from d p j k l xs x y pairs size pd even jd at to = subst (λ n. Paired d p j x y xs (set (set xs n x) l y)) (sym at) (subst (λ n. Paired d p j x y xs (set ones n y)) (sym to) (record {
  kept = length-set ones (spot (p + 1) j) y ∙ length_ones;
  first = kept_set_own d ones (p + 1) j p j y (sym next) (λ u v. absurd (omega (arith, u))) ∙ kept_set_same d xs p j x pairs size (omega (arith, pd)) jd;
  second = kept_set_same d ones (p + 1) j y pairs length_ones pd jd;
  own = λ a b h n. kept_set_own d ones (p + 1) j a b y (h ∙ sym next) (λ u v. n v) ∙ kept_set_own d xs p j a b x h (λ u v. n v);
  others = λ a b m n. kept_set_away d ones (p + 1) j a b y (λ s. m (s ∙ next)) (λ s. n (s ∙ next)) ∙ kept_set_away d xs p j a b x m n;
}))
  where
    ones : List (Option ℤ)
    ones = set xs (spot p j) x

    length_ones : length ones ≡ block (d / 2)
    length_ones = length-set xs (spot p j) x ∙ size

    next : (p + 1) / 2 ≡ p / 2
    next = omega (arith, even)
