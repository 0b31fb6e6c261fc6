-- The closing is a matrix again.
use Rattle.std.specs.Prelude.{◌≡◌, ◌≢◌, ℕ, ◌<◌, ◌≤◌, ◌*◌, ℤ, pos, Option, Some, None, ◌⊎◌, ◌-ℤ◌, List, length}
use Rattle.std.proofs.Common.{◌∙◌, ap, refl, sym, arith, inl, inr}
use Rattle.std.proofs.lemmas.Bool.{cases_eq, cases_lt}
use Rattle.std.proofs.lemmas.Int.{ints}
use Rattle.pk_octclose.proofs.Halves.{evened_other}
use Rattle.pk_octclose.proofs.Members.{closing_holds, closing_most}
use Rattle.pk_octclose.proofs.Turned.{sums_turned}
use Rattle.pk_octclose.specs.Closing.{IsClosing, KeepsPoints, evened, there_and_back, tight}
use Rattle.pk_octmat.proofs.Bars.{bar_bar, bar_other}
use Rattle.pk_octmat.proofs.Cells.{cell_column_out, cell_row_out}
use Rattle.pk_octmat.proofs.Matrices.{matrix_from}
use Rattle.pk_octmat.proofs.Points.{capped_near}
use Rattle.pk_octmat.proofs.Tropical.{at_most_both, at_most_same, at_most_trans, lesser_above, lesser_left, plus_comm, half_high}
use Rattle.pk_octmat.specs.Bounds.{AtMost, capped, halved, lesser, plus}
use Rattle.pk_octmat.specs.Octagon.{IsMatrix, Meets, bar, cell_at, side}

pub evened_turned : (p : ℕ → ℕ → Option ℤ) (i j : ℕ) → p i j ≡ p (bar j) (bar i) → evened p i j ≡ evened p (bar j) (bar i)
evened_turned p i j h = by (cases_eq j (bar i))
  where
    by : (j ≡ bar i) ⊎ (j ≢ bar i) → evened p i j ≡ evened p (bar j) (bar i)
    by (inl s) =
        let back : bar j ≡ i = omega (arith, s) in
        rw back (rw s refl)
    by (inr n) =
        let other : bar i ≢ bar (bar j) = λ q. n (sym (bar_bar j) ∙ sym q) in
        evened_other p i j n ∙ h ∙ sym (evened_other p (bar j) (bar i) other)

pub tight_turned : (d n : ℕ) (p : ℕ → ℕ → Option ℤ) → d ≡ 2 * n → ((i j : ℕ) → i < d → j < d → p i j ≡ p (bar j) (bar i)) → (i j : ℕ) → i < d → j < d → tight (evened p) i j ≡ tight (evened p) (bar j) (bar i)
tight_turned d n p pairs h i j id jd =
    let sums : plus (evened p i (bar i)) (evened p (bar j) j) ≡ plus (evened p (bar j) (bar (bar j))) (evened p (bar (bar i)) (bar i)) =
    plus_comm (evened p i (bar i)) (evened p (bar j) j) ∙ ap (λ k. plus (evened p (bar j) k) (evened p i (bar i))) (sym (bar_bar j))
    ∙ ap (λ k. plus (evened p (bar j) (bar (bar j))) (evened p k (bar i))) (sym (bar_bar i)) in
    ap (λ q. lesser q (halved (plus (evened p i (bar i)) (evened p (bar j) j)))) (evened_turned p i j (h i j id jd)) ∙ ap (λ s. lesser (evened p (bar j) (bar i)) (halved s)) sums

half_nonneg : (b : Option ℤ) → AtMost (Some (pos 0)) b → AtMost (Some (pos 0)) (halved b)
half_nonneg None h = tt
half_nonneg (Some z) h = omega (arith, ints, h, half_high z)

pub tight_zero : (p : ℕ → ℕ → Option ℤ) (i : ℕ) → p i i ≡ Some (pos 0) → AtMost (Some (pos 0)) (there_and_back (evened p) i) → tight (evened p) i i ≡ Some (pos 0)
tight_zero p i z h =
    let here : evened p i i ≡ Some (pos 0) = evened_other p i i (λ q. bar_other i (sym q)) ∙ z in
    let half = halved (plus (evened p i (bar i)) (evened p (bar i) i)) in
    ap (λ q. lesser q half) here
    ∙ at_most_both (lesser (Some (pos 0)) half) (Some (pos 0)) (lesser_left (Some (pos 0)) half) (lesser_above (Some (pos 0)) half (Some (pos 0)) (at_most_same (Some (pos 0))) (half_nonneg _ h))

pub closing_zero : (d : ℕ) (e r : ℕ → ℕ → Option ℤ) → IsClosing d e r → (i : ℕ) → i < d → r i i ≡ Some (pos 0)
closing_zero d e r c i id = c.is i i id id ∙ ap capped (tight_zero c.sums i (c.least.zero i id) (c.halves i id))

pub closing_turned : (d n : ℕ) (e r : ℕ → ℕ → Option ℤ) → d ≡ 2 * n → ((i j : ℕ) → e i j ≡ e (bar j) (bar i)) → IsClosing d e r → (i j : ℕ) → i < d → j < d → r i j ≡ r (bar j) (bar i)
closing_turned d n e r pairs t c i j id jd =
    let bi : bar i < d = omega (arith, pairs) in
    let bj : bar j < d = omega (arith, pairs) in
    let sums : (a b : ℕ) → a < d → b < d → c.sums a b ≡ c.sums (bar b) (bar a) = λ a b ad bd. sums_turned d e c.sums t c.least a b ad bd (omega (arith, pairs)) (omega (arith, pairs)) in
    c.is i j id jd ∙ ap capped (tight_turned d n c.sums pairs sums i j id jd) ∙ sym (c.is (bar j) (bar i) bj bi)

-- a sweep reads the same bounds
pub tight_same : (d n : ℕ) (p q : ℕ → ℕ → Option ℤ) → d ≡ 2 * n → ((a b : ℕ) → a < d → b < d → p a b ≡ q a b) → (i j : ℕ) → i < d → j < d → tight p i j ≡ tight q i j
tight_same d n p q pairs h i j id jd =
    let bi : bar i < d = omega (arith, pairs) in
    let bj : bar j < d = omega (arith, pairs) in
    ap (λ s. lesser s (halved (plus (p i (bar i)) (p (bar j) j)))) (h i j id jd) ∙ ap (λ s. lesser (q i j) (halved (plus s (p (bar j) j)))) (h i (bar i) id bi)
    ∙ ap (λ s. lesser (q i j) (halved (plus (q i (bar i)) s))) (h (bar j) j bj jd)

pub back_same : (d n : ℕ) (p q : ℕ → ℕ → Option ℤ) → d ≡ 2 * n → ((a b : ℕ) → a < d → b < d → p a b ≡ q a b) → (i : ℕ) → i < d → there_and_back p i ≡ there_and_back q i
back_same d n p q pairs h i id =
    let bi : bar i < d = omega (arith, pairs) in
    ap (λ s. plus s (p (bar i) i)) (h i (bar i) id bi) ∙ ap (λ s. plus (q i (bar i)) s) (h (bar i) i bi id)

pub closing_matrix : (d n : ℕ) (xs news : List (Option ℤ)) → d ≡ 2 * n → IsMatrix d xs → length news ≡ d * d → IsClosing d (cell_at d xs) (cell_at d news) → IsMatrix d news
closing_matrix d n xs news pairs m size c =
    matrix_from d n news pairs size (closing_zero d (cell_at d xs) (cell_at d news) c)
    (closing_turned d n (cell_at d xs) (cell_at d news) pairs m.coherent.turned c)
    (λ i j id jd. rw (c.is i j id jd) (capped_near (tight (evened c.sums) i j)))

pub closing_points : (d n : ℕ) (xs news : List (Option ℤ)) → d ≡ 2 * n → IsMatrix d xs → IsClosing d (cell_at d xs) (cell_at d news) → KeepsPoints (cell_at d xs) (cell_at d news)
closing_points d n xs news pairs m c = record {
  to = λ x h. record { each = λ i j. to x h i j (cases_lt i d) (cases_lt j d) };
  from = λ x h. record { each = λ i j. from x h i j (cases_lt i d) (cases_lt j d) };
}
  where
    out : (ys : List (Option ℤ)) (v : ℤ) (i j : ℕ) → (d ≤ i) ⊎ (d ≤ j) → AtMost (Some v) (cell_at d ys i j)
    out ys v i j (inl h) = rw (cell_row_out d ys i j h) tt
    out ys v i j (inr h) = rw (cell_column_out d ys i j h) tt

    to : (x : ℕ → ℤ) → Meets (cell_at d xs) x → (i j : ℕ) → (i < d) ⊎ (d ≤ i) → (j < d) ⊎ (d ≤ j) → AtMost (Some (side x j -ℤ side x i)) (cell_at d news i j)
    to x h i j (inl id) (inl jd) = closing_holds d n (cell_at d xs) (cell_at d news) pairs c x h i j id jd
    to x h i j (inl id) (inr q) = out news _ i j (inr q)
    to x h i j (inr p) q = out news _ i j (inl p)

    from : (x : ℕ → ℤ) → Meets (cell_at d news) x → (i j : ℕ) → (i < d) ⊎ (d ≤ i) → (j < d) ⊎ (d ≤ j) → AtMost (Some (side x j -ℤ side x i)) (cell_at d xs i j)
    from x h i j (inl id) (inl jd) = at_most_trans (Some (side x j -ℤ side x i)) (cell_at d news i j) (cell_at d xs i j) (h.each i j) (closing_most d (cell_at d xs) (cell_at d news) c m.near i j id jd)
    from x h i j (inl id) (inr q) = out xs _ i j (inr q)
    from x h i j (inr p) q = out xs _ i j (inl p)
