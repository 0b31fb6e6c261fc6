-- What makes a list of cells a matrix.
use Rattle.std.specs.Prelude.{◌≡◌, ◌≢◌, ℕ, ◌<◌, ◌≤◌, ◌*◌, ◌^◌, ◌==◌, ℤ, pos, Option, Some, None, Bool, true, false, List, if◌then◌else◌, ◌⊎◌, length}
use Rattle.std.proofs.Common.{◌∙◌, refl, sym, arith, inl, inr}
use Rattle.std.proofs.lemmas.Bool.{cases_eq, cases_lt}
use Rattle.std.proofs.lemmas.Bool.Decides.{nat_tests}
use Rattle.std.proofs.lemmas.Int.{ints}
use Rattle.pk_octmat.specs.Bounds.{IsNear}
use Rattle.pk_octmat.specs.Octagon.{cell_at, bar, top_bound, IsMatrix}
use Rattle.pk_octmat.proofs.Cells.{cell_row_out, cell_column_out}

pub matrix_from : (d n : ℕ) (xs : List (Option ℤ)) → d ≡ 2 * n → length xs ≡ d * d
    → ((i : ℕ) → i < d → cell_at d xs i i ≡ Some (pos 0))
    → ((i j : ℕ) → i < d → j < d → cell_at d xs i j ≡ cell_at d xs (bar j) (bar i))
    → ((i j : ℕ) → i < d → j < d → IsNear (2 ^ 66) (cell_at d xs i j))
    → IsMatrix d xs
matrix_from d n xs pairs size zero turned near = record {
  size = size;
  coherent = record { zero = zero; turned = λ i j. turn i j (cases_lt i d) (cases_lt j d) };
  near = λ i j. close i j (cases_lt i d) (cases_lt j d);
}
  where
    turn : (i j : ℕ) → (i < d) ⊎ (d ≤ i) → (j < d) ⊎ (d ≤ j) → cell_at d xs i j ≡ cell_at d xs (bar j) (bar i)
    turn i j (inl id) (inl jd) = turned i j id jd
    turn i j (inl id) (inr h) = let out : d ≤ bar j = omega (arith, pairs) in cell_column_out d xs i j h ∙ sym (cell_row_out d xs (bar j) (bar i) out)
    turn i j (inr h) q = let out : d ≤ bar i = omega (arith, pairs) in cell_row_out d xs i j h ∙ sym (cell_column_out d xs (bar j) (bar i) out)

    close : (i j : ℕ) → (i < d) ⊎ (d ≤ i) → (j < d) ⊎ (d ≤ j) → IsNear (2 ^ 66) (cell_at d xs i j)
    close i j (inl id) (inl jd) = near i j id jd
    close i j (inl id) (inr h) = rw (cell_column_out d xs i j h) tt
    close i j (inr h) q = rw (cell_row_out d xs i j h) tt

pub top_same : (i : ℕ) → top_bound i i ≡ Some (pos 0)
top_same i = let same : (i == i) ≡ true = grind (arith, nat_tests) in rw same refl

pub top_other : (i j : ℕ) → i ≢ j → top_bound i j ≡ None
top_other i j n = let no : (i == j) ≡ false = grind (arith, nat_tests) in rw no refl

pub top_turned : (i j k l : ℕ) → bar j ≡ k → bar i ≡ l → top_bound i j ≡ top_bound k l
top_turned i j k l p q = by (cases_eq i j)
  where
    by : (i ≡ j) ⊎ (i ≢ j) → top_bound i j ≡ top_bound k l
    by (inl s) = let same : k ≡ l = omega (arith, p, q, s) in rw s (rw same (top_same j ∙ sym (top_same l)))
    by (inr n) = let other : k ≢ l = omega (arith, p, q) in top_other i j n ∙ sym (top_other k l other)

pub top_near : (i j : ℕ) → IsNear (2 ^ 66) (top_bound i j)
top_near i j = by (i == j)
  where
    by : (t : Bool) → IsNear (2 ^ 66) (if t then Some (pos 0) else None)
    by true = (omega (arith, ints), omega (arith, ints))
    by false = tt

pub top_matrix : (d n : ℕ) (xs : List (Option ℤ)) → d ≡ 2 * n → length xs ≡ d * d → ((i j : ℕ) → i < d → j < d → cell_at d xs i j ≡ top_bound i j) → IsMatrix d xs
top_matrix d n xs pairs size is =
    matrix_from d n xs pairs size (λ i id. is i i id id ∙ top_same i)
    (λ i j id jd. is i j id jd ∙ top_turned i j (bar j) (bar i) refl refl ∙ sym (is (bar j) (bar i) (omega (arith, pairs)) (omega (arith, pairs))))
    (λ i j id jd. rw (is i j id jd) (top_near i j))
