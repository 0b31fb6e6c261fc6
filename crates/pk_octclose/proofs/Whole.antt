-- A matrix of which half is kept, and what a write changes there.
use Rattle.std.specs.Prelude.{◌≡◌, ◌≢◌, ℕ, ◌<◌, ◌≤◌, ◌+◌, ◌/◌, ◌%◌, ℤ, pos, Option, Some, ◌⊎◌, List}
use Rattle.std.proofs.Common.{◌∙◌, ap, sym, arith, inl, inr, set}
use Rattle.std.proofs.lemmas.Bool.{cases_eq, cases_lt}
use Rattle.pk_octmat.specs.Bounds.{plus}
use Rattle.pk_octmat.specs.Octagon.{bar}
use Rattle.pk_octmat.specs.Half.{kept_at, spot, unfolded}
use Rattle.pk_octmat.proofs.Cells.{cell_column_out, cell_row_out}
use Rattle.pk_octmat.proofs.Half.{kept_set_other, kept_turned}
use Rattle.pk_octmat.proofs.Pair.{half_bar}

-- a write changes no other bound that is kept
pub kept_set_low : (d : ℕ) (xs : List (Option ℤ)) (i j a b : ℕ) (x : Option ℤ) → b / 2 ≤ a / 2 → j / 2 ≤ i / 2 → ((a ≡ i) → (b ≡ j) → ⊥) → kept_at d (set xs (spot i j) x) a b ≡ kept_at d xs a b
kept_set_low d xs i j a b x low here n = kept_set_other d xs i j a b x n (λ u v w. n (row u v w) (column u v w))
  where
    row : a ≡ bar j → b ≡ bar i → a ≢ b → a ≡ i
    row u v w = omega (arith, u, v, w, low, here)

    column : a ≡ bar j → b ≡ bar i → a ≢ b → b ≡ j
    column u v w = omega (arith, u, v, w, low, here)

-- two that have the same bounds on a variable, of those that are kept, have the same rows of it
pub own_from : (d : ℕ) (xs ys : List (Option ℤ)) (p a b : ℕ) → d % 2 ≡ 0 → ((u v : ℕ) → v / 2 ≤ u / 2 → (u / 2 ≡ p / 2) ⊎ (v / 2 ≡ p / 2) → kept_at d xs u v ≡ kept_at d ys u v) → a / 2 ≡ p / 2 → kept_at d xs a b ≡ kept_at d ys a b
own_from d xs ys p a b pairs h own = by (cases_lt (a / 2) (b / 2)) (cases_lt a d) (cases_lt b d)
  where
    by : (a / 2 < b / 2) ⊎ (b / 2 ≤ a / 2) → (a < d) ⊎ (d ≤ a) → (b < d) ⊎ (d ≤ b) → kept_at d xs a b ≡ kept_at d ys a b
    by (inr g) q r = h a b g (inl own)
    by (inl l) (inr g) r = cell_row_out d (unfolded d xs) a b g ∙ sym (cell_row_out d (unfolded d ys) a b g)
    by (inl l) (inl ad) (inr g) = cell_column_out d (unfolded d xs) a b g ∙ sym (cell_column_out d (unfolded d ys) a b g)
    by (inl l) (inl ad) (inl bd) =
        let apart : a ≢ b = λ s. absurd (omega (arith, s, l)) in
        let ha = half_bar a in
        let hb = half_bar b in
        kept_turned d xs a b pairs ad bd apart ∙ h (bar b) (bar a) (omega (arith, l, ha, hb)) (inr (ha ∙ own)) ∙ sym (kept_turned d ys a b pairs ad bd apart)

-- what coherent bounds are kept
pub kept_is : (d : ℕ) (xs : List (Option ℤ)) (f : ℕ → ℕ → Option ℤ) → d % 2 ≡ 0 → ((a b : ℕ) → a < d → b < d → f a b ≡ f (bar b) (bar a)) → ((a b : ℕ) → a < d → b < d → b / 2 ≤ a / 2 → kept_at d xs a b ≡ f a b) → (a b : ℕ) → a < d → b < d → kept_at d xs a b ≡ f a b
kept_is d xs f pairs turned low a b ad bd = by (cases_lt (a / 2) (b / 2))
  where
    by : (a / 2 < b / 2) ⊎ (b / 2 ≤ a / 2) → kept_at d xs a b ≡ f a b
    by (inr g) = low a b ad bd g
    by (inl l) =
        let apart : a ≢ b = λ s. absurd (omega (arith, s, l)) in
        let ha = half_bar a in
        let hb = half_bar b in
        kept_turned d xs a b pairs ad bd apart ∙ low (bar b) (bar a) (omega (arith, pairs)) (omega (arith, pairs)) (omega (arith, l, ha, hb)) ∙ sym (turned a b ad bd)

-- they are coherent where the diagonal is
pub kept_coherent : (d : ℕ) (xs : List (Option ℤ)) → d % 2 ≡ 0 → ((i : ℕ) → i < d → kept_at d xs i i ≡ Some (pos 0)) → (a b : ℕ) → kept_at d xs a b ≡ kept_at d xs (bar b) (bar a)
kept_coherent d xs pairs diagonal a b = by (cases_lt a d) (cases_lt b d) (cases_eq a b)
  where
    by : (a < d) ⊎ (d ≤ a) → (b < d) ⊎ (d ≤ b) → (a ≡ b) ⊎ (a ≢ b) → kept_at d xs a b ≡ kept_at d xs (bar b) (bar a)
    by (inr g) q r = cell_row_out d (unfolded d xs) a b g ∙ sym (cell_column_out d (unfolded d xs) (bar b) (bar a) (omega (arith, pairs)))
    by (inl ad) (inr g) r = cell_column_out d (unfolded d xs) a b g ∙ sym (cell_row_out d (unfolded d xs) (bar b) (bar a) (omega (arith, pairs)))
    by (inl ad) (inl bd) (inl s) = rw s (diagonal b bd ∙ sym (diagonal (bar b) (omega (arith, pairs))))
    by (inl ad) (inl bd) (inr n) = kept_turned d xs a b pairs ad bd n

-- there and back over the two places of a variable
pub round_is : (e : ℕ → ℕ → Option ℤ) (p : ℕ) (r a b : Option ℤ) → r ≡ plus a b → a ≡ e p (p + 1) → b ≡ e (p + 1) p → r ≡ plus (e p (p + 1)) (e (p + 1) p)
round_is e p r a b sum there back = sum ∙ ap (λ o. plus o b) there ∙ ap (λ o. plus (e p (p + 1)) o) back
