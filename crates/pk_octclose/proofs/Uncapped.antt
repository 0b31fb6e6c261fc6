-- Small matrices: the closing of one of few variables reaches no cap, so it is tight.
use Rattle.std.specs.Prelude.{◌≡◌, ℕ, ◌<◌, ◌≤◌, ◌+◌, ◌*◌, ◌^◌, ◌==◌, ℤ, pos, ◌+ℤ◌, ◌≤ℤ◌, Option, Some, None, Bool, true, false, if◌then◌else◌, ◌⊎◌, List, []}
use Rattle.std.specs.Int.{int_div_euclid}
use Rattle.std.proofs.Common.{◌∙◌, refl, sym, subst, arith, inl, inr}
use Rattle.std.proofs.lemmas.Bool.{cases_lt}
use Rattle.std.proofs.lemmas.Int.{ints}
use Rattle.pk_octmat.specs.Bounds.{AtMost, IsNear, even_down, halved, plus}
use Rattle.pk_octmat.specs.Octagon.{IsMatrix, Octagon, bar, cell_at, entry}
use Rattle.pk_octmat.proofs.Bars.{bar_in}
use Rattle.pk_octmat.proofs.Cells.{cell_column_out, cell_row_out}
use Rattle.pk_octmat.proofs.Points.{capped_same}
use Rattle.pk_octmat.proofs.Tropical.{half_high, half_low, lesser_one, lesser_right}
use Rattle.pk_octclose.specs.Closing.{IsClosing, IsSmall, evened, tight}
use Rattle.pk_octclose.specs.Walks.{HasLeastSums, walk_sum}
use Rattle.pk_octclose.proofs.Closed.{closing_turned, closing_zero}
use Rattle.pk_octclose.proofs.Halves.{evened_here, tight_column, tight_row}
use Rattle.pk_octclose.proofs.Lengths.{through_near}
use Rattle.pk_octclose.proofs.Sums.{walk_within}
use Rattle.pk_octclose.proofs.Triangle.{IsSums, sums_triangle, tight_even, tight_triangle}
use Rattle.pk_octclose.proofs.Turned.{sums_turned}
use Rattle.pk_octclose.proofs.Walks.{Below, EachIn, Reached, Through}
use Rattle.pk_octpoints.proofs.Near.{near_more}
use Rattle.pk_octpoints.specs.Tight.{IsTight}

-- ---- least sums as what has been reached
none_above : (a : Option ℤ) → AtMost None a → a ≡ None
none_above None h = refl
none_above (Some z) h = absurd h

pub through_sums : (d : ℕ) (xs : List (Option ℤ)) (p : ℕ → ℕ → Option ℤ) → HasLeastSums d (cell_at d xs) p → Through d (cell_at d xs) p (Below d)
through_sums d xs p h = record {
  zero = h.zero;
  below = λ i j id jd. (h.each i j id jd).least [];
  reached = reached;
  closed = λ i j q id jd qd b. sums_triangle d (cell_at d xs) p h i q j id qd jd;
}
  where
    reached : (i j : ℕ) → i < d → j < d → Reached (cell_at d xs) (Below d) i j (p i j)
    reached i j id jd = let l = h.each i j id jd in by l.by l.reached (l.least []) (walk_within d xs i j l.by)
      where
        by : (vs : List ℕ) → walk_sum (cell_at d xs) i vs j ≡ p i j → AtMost (p i j) (cell_at d xs i j) → EachIn (Below d) vs ⊎ (walk_sum (cell_at d xs) i vs j ≡ None) → Reached (cell_at d xs) (Below d) i j (p i j)
        by vs s low (inl b) = record { by = vs; each = b; is = s }
        by vs s low (inr n) =
            let none : p i j ≡ None = sym s ∙ n in
            record { by = []; each = tt; is = none_above (cell_at d xs i j) (subst (λ o. AtMost o (cell_at d xs i j)) none low) ∙ sym none }

-- ---- nothing is capped
even_near : (m : ℕ) (b : Option ℤ) → IsNear m b → IsNear (m + 1) (even_down b)
even_near m None h = tt
even_near m (Some z) h = (omega (arith, ints, h.0, half_high z), omega (arith, ints, h.1, half_low z))

evened_near : (m : ℕ) (p : ℕ → ℕ → Option ℤ) (i j : ℕ) → IsNear m (p i j) → IsNear (m + 1) (evened p i j)
evened_near m p i j h = by (j == bar i)
  where
    by : (t : Bool) → IsNear (m + 1) (if t then even_down (p i j) else p i j)
    by true = even_near m (p i j) h
    by false = near_more m (m + 1) (p i j) (omega arith) h

-- half of a sum is no farther from 0 than its two numbers
half_sum_near : (m : ℕ) (a b : Option ℤ) → IsNear m a → IsNear m b → IsNear m (halved (plus a b))
half_sum_near m None b p q = tt
half_sum_near m (Some a) None p q = tt
half_sum_near m (Some a) (Some b) p q = by (int_div_euclid (a +ℤ b) (pos 2)) (half_low (a +ℤ b)) (half_high (a +ℤ b))
  where
    by : (z : ℤ) → (z +ℤ z) ≤ℤ (a +ℤ b) → (a +ℤ b) ≤ℤ (z +ℤ z +ℤ pos 1) → IsNear m (Some z)
    by z l h = (omega (arith, ints, p.0, q.0, l, h), omega (arith, ints, p.1, q.1, l, h))

tight_near : (m n : ℕ) (p : ℕ → ℕ → Option ℤ) → ((i j : ℕ) → i < 2 * n → j < 2 * n → IsNear m (p i j)) → (i j : ℕ) → i < 2 * n → j < 2 * n → IsNear (m + 1) (tight (evened p) i j)
tight_near m n p h i j id jd = by (lesser_one (evened p i j) (halved (plus (evened p i (bar i)) (evened p (bar j) j))))
  where
    at : (a b : ℕ) → a < 2 * n → b < 2 * n → IsNear (m + 1) (evened p a b)
    at a b ad bd = evened_near m p a b (h a b ad bd)

    by : (tight (evened p) i j ≡ evened p i j) ⊎ (tight (evened p) i j ≡ halved (plus (evened p i (bar i)) (evened p (bar j) j))) → IsNear (m + 1) (tight (evened p) i j)
    by (inl s) = rw s (at i j id jd)
    by (inr s) = rw s (half_sum_near (m + 1) (evened p i (bar i)) (evened p (bar j) j) (at i (bar i) id (bar_in n i id)) (at (bar j) j (bar_in n j jd) jd))

pub closing_uncapped : (n : ℕ) (xs news : List (Option ℤ)) → n ≤ 64 → ((i j : ℕ) → IsNear (2 ^ 58) (cell_at (2 * n) xs i j)) → (c : IsClosing (2 * n) (cell_at (2 * n) xs) (cell_at (2 * n) news)) → (i j : ℕ) → i < 2 * n → j < 2 * n
    → cell_at (2 * n) news i j ≡ tight (evened c.sums) i j
closing_uncapped n xs news few small c i j id jd =
    let near : (a b : ℕ) → a < 2 * n → b < 2 * n → IsNear (2 * n * 2 ^ 58 + 2 ^ 58) (c.sums a b) = through_near (2 * n) (cell_at (2 * n) xs) c.sums (Below (2 * n)) (2 ^ 58) (through_sums (2 * n) xs c.sums c.least) (λ p h. h) small in
    c.is i j id jd ∙ capped_same (tight (evened c.sums) i j) (near_more (2 * n * 2 ^ 58 + 2 ^ 58 + 1) (2 ^ 66) _ (omega (arith, few)) (tight_near (2 * n * 2 ^ 58 + 2 ^ 58) n c.sums near i j id jd))

-- ---- so it is tight
pub closing_tight : (n : ℕ) (xs news : List (Option ℤ)) → n ≤ 64 → IsMatrix (2 * n) xs → ((i j : ℕ) → IsNear (2 ^ 58) (cell_at (2 * n) xs i j)) → IsClosing (2 * n) (cell_at (2 * n) xs) (cell_at (2 * n) news) → IsTight n (cell_at (2 * n) news)
closing_tight n xs news few m small c = record {
  zero = closing_zero (2 * n) (cell_at (2 * n) xs) r c;
  turned = closing_turned (2 * n) n (cell_at (2 * n) xs) r refl m.coherent.turned c;
  triangle = λ i k j id kd jd. rw (is i j id jd) (rw (is i k id kd) (rw (is k j kd jd) (tight_triangle (2 * n) c.sums known i k j id kd jd)));
  even = λ i id. rw (is i (bar i) id (bar_in n i id)) (sym (evened_here t i) ∙ tight_even c.sums i (bar i));
  strong = strong;
}
  where
    r : ℕ → ℕ → Option ℤ
    r = cell_at (2 * n) news

    t : ℕ → ℕ → Option ℤ
    t = tight (evened c.sums)

    is : (i j : ℕ) → i < 2 * n → j < 2 * n → r i j ≡ t i j
    is = closing_uncapped n xs news few small c

    known : IsSums (2 * n) c.sums
    known = record {
      triangle = sums_triangle (2 * n) (cell_at (2 * n) xs) c.sums c.least;
      turned = λ i j id jd. sums_turned (2 * n) (cell_at (2 * n) xs) c.sums m.coherent.turned c.least i j id jd (bar_in n i id) (bar_in n j jd);
      halves = c.halves;
      inside = λ i id. bar_in n i id;
    }

    strong : (i j : ℕ) → i < 2 * n → j < 2 * n → AtMost (r i j) (halved (plus (r i (bar i)) (r (bar j) j)))
    strong i j id jd =
        let row : r i (bar i) ≡ evened c.sums i (bar i) = is i (bar i) id (bar_in n i id) ∙ tight_row (evened c.sums) i in
        let column : r (bar j) j ≡ evened c.sums (bar j) j = is (bar j) j (bar_in n j jd) jd ∙ tight_column (evened c.sums) j in
        rw (is i j id jd) (rw row (rw column (lesser_right (evened c.sums i j) (halved (plus (evened c.sums i (bar i)) (evened c.sums (bar j) j))))))

-- bounds that are small between each two places are small
pub small_all : (m : Octagon) (k : ℕ) → 2 * m.vars ≤ k → ((i : ℕ) → i < k → (j : ℕ) → j < 2 * m.vars → IsNear (2 ^ 58) (entry m i j)) → IsSmall m
small_all m k l h i j = by (cases_lt i (2 * m.vars)) (cases_lt j (2 * m.vars))
  where
    by : (i < 2 * m.vars) ⊎ (2 * m.vars ≤ i) → (j < 2 * m.vars) ⊎ (2 * m.vars ≤ j) → IsNear (2 ^ 58) (entry m i j)
    by (inl id) (inl jd) = h i (omega (arith, l)) j jd
    by (inl id) (inr g) = rw (cell_column_out (2 * m.vars) m.cells i j g) tt
    by (inr g) q = rw (cell_row_out (2 * m.vars) m.cells i j g) tt
