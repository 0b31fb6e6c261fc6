-- A matrix whose kept bounds are rewritten one after another, row by row.
use Rattle.std.specs.Prelude.{◌≡◌, ◌≢◌, ℕ, ◌<◌, ◌≤◌, ◌+◌, ◌*◌, ◌/◌, ℤ, Option, List, ◌⊎◌, length}
use Rattle.std.proofs.Common.{◌∙◌, refl, arith, inl, inr}
use Rattle.std.proofs.lemmas.Bool.{cases_eq, cases_lt}
use Rattle.pk_octmat.specs.Half.{block, kept_at}

-- the place (a, b) stands before (i, j)
abbrev pub IsBefore : ℕ → ℕ → ℕ → ℕ → Type 0
IsBefore a b i j = (a < i) ⊎ ((a ≡ i) × (b < j))

abbrev pub IsFrom : ℕ → ℕ → ℕ → ℕ → Type 0
IsFrom a b i j = (i < a) ⊎ ((a ≡ i) × (j ≤ b))

-- the bounds that are kept before the place (i, j) are those of f, the others those of e
pub record Swept (d i j : ℕ) (e f : ℕ → ℕ → Option ℤ) (cells : List (Option ℤ)) : Type 0 where
  pub size : length cells ≡ block (d / 2)
  pub done : (a b : ℕ) → a < d → b / 2 ≤ a / 2 → IsBefore a b i j → kept_at d cells a b ≡ f a b
  pub rest : (a b : ℕ) → a < d → b / 2 ≤ a / 2 → IsFrom a b i j → kept_at d cells a b ≡ e a b

pub swept_none : (d : ℕ) (f : ℕ → ℕ → Option ℤ) (cells : List (Option ℤ)) → length cells ≡ block (d / 2) → Swept d 0 0 (kept_at d cells) f cells
swept_none d f cells size = record { size = size; done = λ a b ad low h. absurd (none a b h); rest = λ a b ad low h. refl }
  where
    none : (a b : ℕ) → IsBefore a b 0 0 → ⊥
    none a b (inl l) = omega arith
    none a b (inr p) = omega (arith, p.1)

before_or_from : (a b i j : ℕ) → IsBefore a b i j ⊎ IsFrom a b i j
before_or_from a b i j = by (cases_lt a i) (cases_eq a i) (cases_lt b j)
  where
    by : (a < i) ⊎ (i ≤ a) → (a ≡ i) ⊎ (a ≢ i) → (b < j) ⊎ (j ≤ b) → IsBefore a b i j ⊎ IsFrom a b i j
    by (inl l) q r = inl (inl l)
    by (inr g) (inl s) (inl l) = inl (inr (s, l))
    by (inr g) (inl s) (inr h) = inr (inr (s, h))
    by (inr g) (inr n) r = inr (inl (omega arith))

-- a bound that the sweep doesn't change
pub swept_read : (d i j a b : ℕ) (e f : ℕ → ℕ → Option ℤ) (cells : List (Option ℤ)) → Swept d i j e f cells → a < d → b / 2 ≤ a / 2 → f a b ≡ e a b → kept_at d cells a b ≡ e a b
swept_read d i j a b e f cells s ad low same = by (before_or_from a b i j)
  where
    by : IsBefore a b i j ⊎ IsFrom a b i j → kept_at d cells a b ≡ e a b
    by (inl h) = s.done a b ad low h ∙ same
    by (inr h) = s.rest a b ad low h

-- the bound that comes next
pub swept_next : (d i j : ℕ) (e f : ℕ → ℕ → Option ℤ) (cells : List (Option ℤ)) → Swept d i j e f cells → i < d → j / 2 ≤ i / 2 → kept_at d cells i j ≡ e i j
swept_next d i j e f cells s id low = s.rest i j id low (inr (refl, omega arith))

pub swept_more : (d i j : ℕ) (e f : ℕ → ℕ → Option ℤ) (cells news : List (Option ℤ)) → Swept d i j e f cells → j / 2 ≤ i / 2 → length news ≡ block (d / 2) → kept_at d news i j ≡ f i j
    → ((a b : ℕ) → b / 2 ≤ a / 2 → (a ≢ i) ⊎ (b ≢ j) → kept_at d news a b ≡ kept_at d cells a b) → Swept d i (j + 1) e f news
swept_more d i j e f cells news s here size is others = record {
  size = size;
  done = λ a b ad low h. done a b ad low h;
  rest = λ a b ad low h. rest a b ad low h;
}
  where
    same : (a b : ℕ) → a < d → b / 2 ≤ a / 2 → (a ≡ i) → (b ≡ j) ⊎ (b ≢ j) → (b < j + 1) → kept_at d news a b ≡ f a b
    same a b ad low p (inl q) l = rw p (rw q is)
    same a b ad low p (inr n) l = others a b low (inr n) ∙ s.done a b ad low (inr (p, omega arith))

    done : (a b : ℕ) → a < d → b / 2 ≤ a / 2 → IsBefore a b i (j + 1) → kept_at d news a b ≡ f a b
    done a b ad low (inl l) = others a b low (inl (λ u. absurd (omega (arith, u)))) ∙ s.done a b ad low (inl l)
    done a b ad low (inr p) = same a b ad low p.0 (cases_eq b j) p.1

    rest : (a b : ℕ) → a < d → b / 2 ≤ a / 2 → IsFrom a b i (j + 1) → kept_at d news a b ≡ e a b
    rest a b ad low (inl l) = others a b low (inl (λ u. absurd (omega (arith, u)))) ∙ s.rest a b ad low (inl l)
    rest a b ad low (inr p) = others a b low (inr (λ v. absurd (omega (arith, v, p.1)))) ∙ s.rest a b ad low (inr (p.0, omega (arith, p.1)))

pub swept_row : (d i j : ℕ) (e f : ℕ → ℕ → Option ℤ) (cells : List (Option ℤ)) → Swept d i j e f cells → i / 2 * 2 + 2 ≤ j → Swept d (i + 1) 0 e f cells
swept_row d i j e f cells s dj = record {
  size = s.size;
  done = λ a b ad low h. s.done a b ad low (done a b low h);
  rest = λ a b ad low h. s.rest a b ad low (rest a b h);
}
  where
    done : (a b : ℕ) → b / 2 ≤ a / 2 → IsBefore a b (i + 1) 0 → IsBefore a b i j
    done a b low (inl l) = by (cases_eq a i)
      where
        by : (a ≡ i) ⊎ (a ≢ i) → IsBefore a b i j
        by (inl q) = inr (q, omega (arith, low, q, dj))
        by (inr n) = inl (omega arith)
    done a b low (inr p) = absurd (omega (arith, p.1))

    rest : (a b : ℕ) → IsFrom a b (i + 1) 0 → IsFrom a b i j
    rest a b (inl l) = inl (omega arith)
    rest a b (inr p) = inl (omega (arith, p.0))

pub swept_all : (d j : ℕ) (e f : ℕ → ℕ → Option ℤ) (cells : List (Option ℤ)) → (i : ℕ) → Swept d i j e f cells → d ≤ i → (a b : ℕ) → a < d → b / 2 ≤ a / 2 → kept_at d cells a b ≡ f a b
swept_all d j e f cells i s di a b ad low = s.done a b ad low (inl (omega arith))
