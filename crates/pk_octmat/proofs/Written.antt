-- What a write of a bound and its coherent one gives.
use Rattle.std.specs.Prelude.{◌≡◌, ◌≢◌, ℕ, ◌*◌, ◌^◌, ◌==◌, ◌&&◌, ℤ, Option, Bool, true, false, List, ◌⊎◌, length}
use Rattle.std.proofs.Common.{◌∙◌, ap, refl, sym, arith, inl, inr}
use Rattle.std.proofs.lemmas.Bool.{cases_eq}
use Rattle.std.proofs.lemmas.Bool.Decides.{nat_tests}
use Rattle.pk_octmat.specs.Bounds.{IsNear}
use Rattle.pk_octmat.specs.Octagon.{cell_at, bar, written, IsMatrix}
use Rattle.pk_octmat.proofs.Matrices.{matrix_from}

-- the places (a, c) and (i, j) are one
abbrev pub IsPlace : ℕ → ℕ → ℕ → ℕ → Type 0
IsPlace a c i j = (a ≡ i) × (c ≡ j)

pub is_place : (a c i j : ℕ) → IsPlace a c i j ⊎ (IsPlace a c i j → ⊥)
is_place a c i j = by (cases_eq a i) (cases_eq c j)
  where
    by : (a ≡ i) ⊎ (a ≢ i) → (c ≡ j) ⊎ (c ≢ j) → IsPlace a c i j ⊎ (IsPlace a c i j → ⊥)
    by (inl p) (inl q) = inl (p, q)
    by (inl p) (inr n) = inr (λ h. n h.1)
    by (inr n) q = inr (λ h. n h.0)

place_yes : (a c i j : ℕ) → IsPlace a c i j → ((a == i) && (c == j)) ≡ true
place_yes a c i j h = let x = h.0 in let y = h.1 in let p : (a == i) ≡ true = grind (arith, nat_tests) in let q : (c == j) ≡ true = grind (arith, nat_tests) in rw p (rw q refl)

place_no : (a c i j : ℕ) → (IsPlace a c i j → ⊥) → ((a == i) && (c == j)) ≡ false
place_no a c i j n = by (a == i) refl (c == j) refl
  where
    by : (s : Bool) → (a == i) ≡ s → (t : Bool) → (c == j) ≡ t → ((a == i) && (c == j)) ≡ false
    by false p t q = rw p refl
    by true p false q = rw p (rw q refl)
    by true p true q = let x : a ≡ i = grind (arith, nat_tests) in let y : c ≡ j = grind (arith, nat_tests) in absurd (n (x, y))

pub written_first : (e : ℕ → ℕ → Option ℤ) (i j : ℕ) (b : Option ℤ) (a c : ℕ) → IsPlace a c i j → written e i j b a c ≡ b
written_first e i j b a c h = rw (place_yes a c i j h) refl

pub written_second : (e : ℕ → ℕ → Option ℤ) (i j : ℕ) (b : Option ℤ) (a c : ℕ) → IsPlace a c (bar j) (bar i) → written e i j b a c ≡ b
written_second e i j b a c h = by (is_place a c i j)
  where
    by : IsPlace a c i j ⊎ (IsPlace a c i j → ⊥) → written e i j b a c ≡ b
    by (inl p) = written_first e i j b a c p
    by (inr n) = rw (place_no a c i j n) (rw (place_yes a c (bar j) (bar i) h) refl)

pub written_none : (e : ℕ → ℕ → Option ℤ) (i j : ℕ) (b : Option ℤ) (a c : ℕ) → (IsPlace a c i j → ⊥) → (IsPlace a c (bar j) (bar i) → ⊥) → written e i j b a c ≡ e a c
written_none e i j b a c m n = rw (place_no a c i j m) (rw (place_no a c (bar j) (bar i) n) refl)

pub write_whole : (d n : ℕ) (xs news : List (Option ℤ)) (i j : ℕ) (b : Option ℤ) → d ≡ 2 * n → IsMatrix d xs → length news ≡ d * d → i ≢ j → IsNear (2 ^ 66) b
    → ((a c : ℕ) → cell_at d news a c ≡ written (cell_at d xs) i j b a c) → IsMatrix d news
write_whole d n xs news i j b pairs m size ne near is =
    matrix_from d n news pairs size
    (λ a ad. is a a ∙ written_none (cell_at d xs) i j b a a (λ h. ne (omega (arith, h.0, h.1))) (λ h. ne (omega (arith, h.0, h.1))) ∙ m.coherent.zero a ad)
    (λ a c ad cd. is a c ∙ turned a c (is_place a c i j) (is_place a c (bar j) (bar i)) ∙ sym (is (bar c) (bar a)))
    (λ a c ad cd. rw (is a c) (close a c (is_place a c i j) (is_place a c (bar j) (bar i))))
  where
    turned : (a c : ℕ) → IsPlace a c i j ⊎ (IsPlace a c i j → ⊥) → IsPlace a c (bar j) (bar i) ⊎ (IsPlace a c (bar j) (bar i) → ⊥) → written (cell_at d xs) i j b a c ≡ written (cell_at d xs) i j b (bar c) (bar a)
    turned a c (inl s) t = written_first (cell_at d xs) i j b a c s ∙ sym (written_second (cell_at d xs) i j b (bar c) (bar a) (ap bar s.1, ap bar s.0))
    turned a c (inr k) (inl t) = written_second (cell_at d xs) i j b a c t ∙ sym (written_first (cell_at d xs) i j b (bar c) (bar a) (omega (arith, t.1), omega (arith, t.0)))
    turned a c (inr k) (inr h) =
        written_none (cell_at d xs) i j b a c k h ∙ m.coherent.turned a c
        ∙ sym (written_none (cell_at d xs) i j b (bar c) (bar a) (λ s. h (omega (arith, s.1), omega (arith, s.0))) (λ s. k (omega (arith, s.1), omega (arith, s.0))))

    close : (a c : ℕ) → IsPlace a c i j ⊎ (IsPlace a c i j → ⊥) → IsPlace a c (bar j) (bar i) ⊎ (IsPlace a c (bar j) (bar i) → ⊥) → IsNear (2 ^ 66) (written (cell_at d xs) i j b a c)
    close a c (inl s) t = rw (written_first (cell_at d xs) i j b a c s) near
    close a c (inr k) (inl t) = rw (written_second (cell_at d xs) i j b a c t) near
    close a c (inr k) (inr h) = rw (written_none (cell_at d xs) i j b a c k h) (m.near a c)
