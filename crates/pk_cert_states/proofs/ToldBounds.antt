-- Whether numbers are the bounds of an octagon.
use Rattle.std.specs.Prelude.{◌≡◌, ℕ, ◌<◌, ◌≤◌, ◌*◌, ◌^◌, nat_lt, ℤ, pos, ◌-ℤ◌, ◌≤ℤ◌, List, length, Option, Some, None}
use Rattle.std.proofs.Common.{arith, refl, sym, subst, ◌∙◌, inl, inr}
use Rattle.std.proofs.lemmas.Bool.{cases_eq, cases_lt}
use Rattle.std.proofs.lemmas.Bool.Decides.{Decides-ltb}
use Rattle.pk_octmat.specs.Bounds.{IsNear}
use Rattle.pk_octmat.specs.Octagon.{IsOctagon, bar, cell_at}
use Rattle.pk_octmat.proofs.Cells.{cell_row_out, cell_column_out}
use Rattle.pk_cert_states.proofs.Told.{Told, told_and, told_as, told_by, told_most, told_bound, told_below}

told_near : (z : Option ℤ) → Told (IsNear (2 ^ 66) z)
told_near None = inl tt
told_near (Some z) = told_and ((pos 0 -ℤ pos (2 ^ 66)) ≤ℤ z) (z ≤ℤ pos (2 ^ 66)) (told_most (pos 0 -ℤ pos (2 ^ 66)) z) (λ _. told_most z (pos (2 ^ 66)))

-- what an octagon's bound is at a place
record IsGood (d : ℕ) (cells : List (Option ℤ)) (i j : ℕ) : Type 0 where
  near : IsNear (2 ^ 66) (cell_at d cells i j)
  turned : cell_at d cells i j ≡ cell_at d cells (bar j) (bar i)
  zero : i ≡ j → cell_at d cells i j ≡ Some (pos 0)

told_zero : (i j : ℕ) (b : Option ℤ) → Told (i ≡ j → b ≡ Some (pos 0))
told_zero i j b = elim (cases_eq i j) [
  | inl e ↦ told_as (b ≡ Some (pos 0)) (i ≡ j → b ≡ Some (pos 0)) (λ h _. h) (λ h. h e) (told_bound b (Some (pos 0)))
  | inr other ↦ inl (λ e. absurd (other e))
]

told_good : (d : ℕ) (cells : List (Option ℤ)) (i j : ℕ) → Told (IsGood d cells i j)
told_good d cells i j =
    let here : Option ℤ = cell_at d cells i j in
    let there : Option ℤ = cell_at d cells (bar j) (bar i) in
    told_as (IsNear (2 ^ 66) here × ((here ≡ there) × (i ≡ j → here ≡ Some (pos 0)))) (IsGood d cells i j)
    (λ p. record { near = p.0; turned = p.1.0; zero = p.1.1 }) (λ h. (h.near, (h.turned, h.zero)))
    (told_and (IsNear (2 ^ 66) here) ((here ≡ there) × (i ≡ j → here ≡ Some (pos 0))) (told_near here)
    (λ _. told_and (here ≡ there) (i ≡ j → here ≡ Some (pos 0)) (told_bound here there) (λ _. told_zero i j here)))

abbrev AreGood : ℕ → List (Option ℤ) → Type 0
AreGood d cells = (i : ℕ) → i < d → (j : ℕ) → j < d → IsGood d cells i j

bar_out : (n i : ℕ) → 2 * n ≤ i → 2 * n ≤ bar i
bar_out n i h = omega (arith, h)

module _ (n : ℕ) (cells : List (Option ℤ)) where
  good_turned : AreGood (2 * n) cells → (i j : ℕ) → cell_at (2 * n) cells i j ≡ cell_at (2 * n) cells (bar j) (bar i)
  good_turned good i j = elim (cases_lt i (2 * n)) [
    | inl row ↦ elim (cases_lt j (2 * n)) [
      | inl column ↦ (good i row j column).turned
      | inr out ↦ cell_column_out (2 * n) cells i j out ∙ sym (cell_row_out (2 * n) cells (bar j) (bar i) (bar_out n j out))
    ]
    | inr out ↦ cell_row_out (2 * n) cells i j out ∙ sym (cell_column_out (2 * n) cells (bar j) (bar i) (bar_out n i out))
  ]

  good_near : AreGood (2 * n) cells → (i j : ℕ) → IsNear (2 ^ 66) (cell_at (2 * n) cells i j)
  good_near good i j = elim (cases_lt i (2 * n)) [
    | inl row ↦ elim (cases_lt j (2 * n)) [
      | inl column ↦ (good i row j column).near
      | inr out ↦ subst (IsNear (2 ^ 66)) (sym (cell_column_out (2 * n) cells i j out)) tt
    ]
    | inr out ↦ subst (IsNear (2 ^ 66)) (sym (cell_row_out (2 * n) cells i j out)) tt
  ]

  pub told_octagon : Told (IsOctagon record { vars = n; cells = cells })
  told_octagon =
      told_as ((n < 2 ^ 31) × ((length cells ≡ 2 * n * (2 * n)) × AreGood (2 * n) cells)) (IsOctagon record { vars = n; cells = cells })
      (λ p. record {
        few = p.0;
        whole = record { size = p.1.0; coherent = record { zero = λ i h. (p.1.1 i h i h).zero refl; turned = good_turned p.1.1 }; near = good_near p.1.1 };
      })
      (λ h. (
        h.few,
        (
          h.whole.size,
          λ i row j column. record {
            near = h.whole.near i j;
            turned = h.whole.coherent.turned i j;
            zero = λ e. subst (λ (k : ℕ). cell_at (2 * n) cells i k ≡ Some (pos 0)) e (h.whole.coherent.zero i row);
          },
        ),
      ))
      (told_and (n < 2 ^ 31) ((length cells ≡ 2 * n * (2 * n)) × AreGood (2 * n) cells) (told_by (n < 2 ^ 31) (nat_lt n (2 ^ 31)) (Decides-ltb n (2 ^ 31)))
      (λ _. told_and (length cells ≡ 2 * n * (2 * n)) (AreGood (2 * n) cells) (cases_eq (length cells) (2 * n * (2 * n)))
      (λ _. told_below (λ (i : ℕ). (j : ℕ) → j < 2 * n → IsGood (2 * n) cells i j) (λ i. told_below (IsGood (2 * n) cells i) (told_good (2 * n) cells i) (2 * n)) (2 * n))))
