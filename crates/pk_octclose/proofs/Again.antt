-- Closings are determined, and closed.
use Rattle.std.specs.Prelude.{◌≡◌, ◌≢◌, ℕ, zero, suc, ◌<◌, ◌≤◌, ◌*◌, ◌^◌, ◌==◌, if◌then◌else◌, ℤ, pos, Option, Some, None, Bool, true, false, List, [], ◌∷◌, ◌⊎◌}
use Rattle.std.proofs.Common.{◌∙◌, ap, refl, sym, subst, arith, inl, inr}
use Rattle.std.proofs.lemmas.Bool.{cases_eq, cases_lt}
use Rattle.std.proofs.lemmas.Int.{ints}
use Rattle.pk_octclose.proofs.Closed.{back_same, closing_zero, tight_same, tight_zero}
use Rattle.pk_octclose.proofs.Halves.{evened_here, evened_other, tight_column, tight_row}
use Rattle.pk_octclose.proofs.Members.{evened_most}
use Rattle.pk_octclose.proofs.Sums.{least_from}
use Rattle.pk_octclose.proofs.Triangle.{IsSums, sums_triangle, tight_even, tight_triangle}
use Rattle.pk_octclose.proofs.Turned.{sums_turned}
use Rattle.pk_octclose.proofs.Walks.{Below, EachIn, IsWith, Through, each_in_more, reached_relaxed, through_more, through_none}
use Rattle.pk_octclose.specs.Closing.{IsClosing, IsEmpty, evened, there_and_back, tight}
use Rattle.pk_octclose.specs.Walks.{HasLeastSums, relaxed, walk_sum}
use Rattle.pk_octmat.proofs.Cells.{cell_column_out, cell_row_out}
use Rattle.pk_octmat.proofs.Points.{at_most_capped, capped_le, capped_near, capped_same}
use Rattle.pk_octmat.proofs.Tropical.{at_most_both, at_most_none, at_most_trans, lesser_above, lesser_left, lesser_right, plus_le, half_high, half_low}
use Rattle.pk_octmat.specs.Bounds.{AtMost, IsNear, capped, even_down, halved, is_negative, plus}
use Rattle.pk_octmat.specs.Octagon.{IsMatrix, bar, cell_at}

-- ---- one closing
pub sums_same : (d : ℕ) (e p q : ℕ → ℕ → Option ℤ) → HasLeastSums d e p → HasLeastSums d e q → (i j : ℕ) → i < d → j < d → p i j ≡ q i j
sums_same d e p q g h i j id jd =
    let l = g.each i j id jd in
    let m = h.each i j id jd in
    at_most_both (p i j) (q i j) (subst (λ s. AtMost (p i j) s) m.reached (l.least m.by)) (subst (λ s. AtMost (q i j) s) l.reached (m.least l.by))

pub evened_same : (p q : ℕ → ℕ → Option ℤ) (i j : ℕ) → p i j ≡ q i j → evened p i j ≡ evened q i j
evened_same p q i j s = by (j == bar i)
  where
    by : (t : Bool) → (if t then even_down (p i j) else p i j) ≡ (if t then even_down (q i j) else q i j)
    by true = ap even_down s
    by false = s

pub closings_same : (d n : ℕ) (e r s : ℕ → ℕ → Option ℤ) → d ≡ 2 * n → IsClosing d e r → IsClosing d e s → (i j : ℕ) → i < d → j < d → r i j ≡ s i j
closings_same d n e r s pairs c b i j id jd =
    c.is i j id jd
    ∙ ap capped (tight_same d n (evened c.sums) (evened b.sums) pairs (λ u v ud vd. evened_same c.sums b.sums u v (sums_same d e c.sums b.sums c.least b.least u v ud vd)) i j id jd)
    ∙ sym (b.is i j id jd)

-- ---- none where it is empty
nonnegative : (b : Option ℤ) → AtMost (Some (pos 0)) b → is_negative b ≡ true → ⊥
nonnegative None h n = absurd (cc)
nonnegative (Some z) h n = omega (arith, ints, h)

outside : (d : ℕ) (xs : List (Option ℤ)) (i : ℕ) (vs : List ℕ) → d ≤ i → is_negative (walk_sum (cell_at d xs) i vs i) ≡ true → ⊥
outside d xs i [] g n = let none : true ≡ false = sym n ∙ rw (cell_row_out d xs i i g) refl in absurd (cc)
outside d xs i (v ∷ vs) g n = let none : true ≡ false = sym n ∙ rw (cell_row_out d xs i v g) refl in absurd (cc)

pub closing_not_empty : (d n : ℕ) (xs : List (Option ℤ)) (r : ℕ → ℕ → Option ℤ) → d ≡ 2 * n → IsClosing d (cell_at d xs) r → IsEmpty d (cell_at d xs) → ⊥
closing_not_empty d n xs r pairs c (inl w) = by (cases_lt w.at d)
  where
    by : (w.at < d) ⊎ (d ≤ w.at) → ⊥
    by (inl l) = nonnegative _ (subst (λ s. AtMost s (walk_sum (cell_at d xs) w.at w.by w.at)) (c.least.zero w.at l) ((c.least.each w.at w.at l l).least w.by)) w.negative
    by (inr g) = outside d xs w.at w.by g w.negative
closing_not_empty d n xs r pairs c (inr h) =
    let same : there_and_back (evened c.sums) h.at ≡ there_and_back (evened h.sums) h.at =
    back_same d n (evened c.sums) (evened h.sums) pairs (λ u v ud vd. evened_same c.sums h.sums u v (sums_same d (cell_at d xs) c.sums h.sums c.least h.least u v ud vd)) h.at h.place in
    nonnegative _ (subst (λ s. AtMost (Some (pos 0)) s) same (c.halves h.at h.place)) h.negative

-- ---- least sums are there where no walk that leads back is negative
pub record Sums (d : ℕ) (e : ℕ → ℕ → Option ℤ) (k : ℕ) : Type 0 where
  pub sums : ℕ → ℕ → Option ℤ
  pub through : Through d e sums (Below k)

one_more : (k : ℕ) → IsWith (Below k) k (Below (suc k))
one_more k = record { old = λ p h. omega arith; new = omega arith; only = λ p h. by p h (cases_lt p k) }
  where
    by : (p : ℕ) → p < suc k → (p < k) ⊎ (k ≤ p) → (p < k) ⊎ (p ≡ k)
    by p h (inl l) = inl l
    by p h (inr g) = inr (omega arith)

pub sums_from : (d : ℕ) (e : ℕ → ℕ → Option ℤ) → ((i : ℕ) → i < d → e i i ≡ Some (pos 0)) → ((i : ℕ) (vs : List ℕ) → i < d → EachIn (Below d) vs → AtMost (Some (pos 0)) (walk_sum e i vs i)) → (k : ℕ) → k ≤ d → Sums d e k
sums_from d e z h zero kd = record { sums = e; through = through_none d e (Below 0) (λ p l. omega arith) z }
sums_from d e z h (suc k) kd = by (sums_from d e z h k (omega arith))
  where
    by : Sums d e k → Sums d e (suc k)
    by s = record {
      sums = relaxed s.sums k;
      through =
          through_more d e s.sums (relaxed s.sums k) (Below k) k (Below (suc k)) s.through (one_more k) (omega arith) (λ i j id jd. refl)
          (λ i id.
          let r = reached_relaxed d e s.sums (Below k) k (Below (suc k)) s.through (one_more k) (omega arith) i i id id in
          subst (λ b. AtMost (Some (pos 0)) b) r.is (h i r.by id (each_in_more (Below (suc k)) (Below d) (λ p l. omega arith) r.by r.each)));
    }

-- ---- the closing of a closing
-- sums of walks of capped bounds are no less than bounds that obey the triangle inequality
walks_above : (d : ℕ) (t r : ℕ → ℕ → Option ℤ) → ((i k j : ℕ) → i < d → k < d → j < d → AtMost (t i j) (plus (t i k) (t k j))) → ((i j : ℕ) → i < d → j < d → AtMost (t i j) (r i j))
    → (i j : ℕ) (vs : List ℕ) → i < d → j < d → EachIn (Below d) vs → AtMost (t i j) (walk_sum r i vs j)
walks_above d t r triangle above i j [] id jd b = above i j id jd
walks_above d t r triangle above i j (v ∷ vs) id jd b =
    at_most_trans (t i j) (plus (t i v) (t v j)) (plus (r i v) (walk_sum r v vs j)) (triangle i v j id b.0 jd)
    (plus_le (t i v) (t v j) (r i v) (walk_sum r v vs j) (above i v id b.0) (walks_above d t r triangle above v j vs b.0 jd b.1))

pub even_le : (a b : Option ℤ) → AtMost a b → AtMost (even_down a) (even_down b)
even_le a None h = at_most_none (even_down a)
even_le None (Some b) h = absurd h
even_le (Some a) (Some b) h = omega (arith, ints, h, half_low a, half_high a, half_low b, half_high b)

pub half_le : (a b : Option ℤ) → AtMost a b → AtMost (halved a) (halved b)
half_le a None h = at_most_none (halved a)
half_le None (Some b) h = absurd h
half_le (Some a) (Some b) h = omega (arith, ints, h, half_low a, half_high a, half_low b, half_high b)

-- what lies between tight bounds and their caps has the same closing
even_between : (p f : ℕ → ℕ → Option ℤ) (i j : ℕ) → AtMost (tight (evened p) i j) (f i j) → AtMost (tight (evened p) i j) (evened f i j)
even_between p f i j h = by (cases_eq j (bar i))
  where
    by : (j ≡ bar i) ⊎ (j ≢ bar i) → AtMost (tight (evened p) i j) (evened f i j)
    by (inr n) = rw (evened_other f i j n) h
    by (inl s) =
        let here : AtMost (tight (evened p) i (bar i)) (f i (bar i)) = subst (λ k. AtMost (tight (evened p) i k) (f i k)) s h in
        let same : even_down (tight (evened p) i (bar i)) ≡ tight (evened p) i (bar i) = sym (evened_here (tight (evened p)) i) ∙ tight_even p i (bar i) in
        let even : AtMost (tight (evened p) i (bar i)) (even_down (f i (bar i))) = subst (λ b. AtMost b (even_down (f i (bar i)))) same (even_le (tight (evened p) i (bar i)) (f i (bar i)) here) in
        subst (λ k. AtMost (tight (evened p) i k) (evened f i k)) (sym s) (rw (evened_here f i) even)

tight_between : (d n : ℕ) (p f : ℕ → ℕ → Option ℤ) → d ≡ 2 * n → ((i j : ℕ) → i < d → j < d → AtMost (tight (evened p) i j) (f i j)) → (i j : ℕ) → i < d → j < d → AtMost (tight (evened p) i j) (tight (evened f) i j)
tight_between d n p f pairs low i j id jd =
    let bi : bar i < d = omega (arith, pairs) in
    let bj : bar j < d = omega (arith, pairs) in
    let row : AtMost (evened p i (bar i)) (evened f i (bar i)) = subst (λ b. AtMost b (evened f i (bar i))) (tight_row (evened p) i) (even_between p f i (bar i) (low i (bar i) id bi)) in
    let column : AtMost (evened p (bar j) j) (evened f (bar j) j) = subst (λ b. AtMost b (evened f (bar j) j)) (tight_column (evened p) j) (even_between p f (bar j) j (low (bar j) j bj jd)) in
    let halves : AtMost (halved (plus (evened p i (bar i)) (evened p (bar j) j))) (halved (plus (evened f i (bar i)) (evened f (bar j) j))) = half_le _ _ (plus_le _ _ _ _ row column) in
    lesser_above (evened f i j) (halved (plus (evened f i (bar i)) (evened f (bar j) j))) (tight (evened p) i j) (even_between p f i j (low i j id jd))
    (at_most_trans (tight (evened p) i j) (halved (plus (evened p i (bar i)) (evened p (bar j) j))) _ (lesser_right (evened p i j) (halved (plus (evened p i (bar i)) (evened p (bar j) j)))) halves)

back_between : (d n : ℕ) (p f : ℕ → ℕ → Option ℤ) → d ≡ 2 * n → ((i j : ℕ) → i < d → j < d → AtMost (tight (evened p) i j) (f i j)) → (i : ℕ) → i < d → AtMost (there_and_back (evened p) i) (there_and_back (evened f) i)
back_between d n p f pairs low i id =
    let bi : bar i < d = omega (arith, pairs) in
    let to : AtMost (evened p i (bar i)) (evened f i (bar i)) = subst (λ b. AtMost b (evened f i (bar i))) (tight_row (evened p) i) (even_between p f i (bar i) (low i (bar i) id bi)) in
    let from : AtMost (evened p (bar i) i) (evened f (bar i) i) = subst (λ b. AtMost b (evened f (bar i) i)) (tight_column (evened p) i) (even_between p f (bar i) i (low (bar i) i bi id)) in
    plus_le _ _ _ _ to from

pub closing_again : (d n : ℕ) (xs news : List (Option ℤ)) → d ≡ 2 * n → IsMatrix d xs → IsClosing d (cell_at d xs) (cell_at d news) → IsClosing d (cell_at d news) (cell_at d news)
closing_again d n xs news pairs m c = record {
  sums = f;
  least = least_from d news f d s.through (omega arith) (omega arith);
  halves = λ i id. at_most_trans (Some (pos 0)) (there_and_back (evened p) i) (there_and_back (evened f) i) (c.halves i id) (back_between d n p f pairs low i id);
  is = is;
}
  where
    p : ℕ → ℕ → Option ℤ
    p = c.sums

    known : IsSums d p
    known = record {
      triangle = sums_triangle d (cell_at d xs) p c.least;
      turned = λ i j id jd. sums_turned d (cell_at d xs) p m.coherent.turned c.least i j id jd (omega (arith, pairs)) (omega (arith, pairs));
      halves = c.halves;
      inside = λ i id. omega (arith, pairs);
    }

    above : (i j : ℕ) → i < d → j < d → AtMost (tight (evened p) i j) (cell_at d news i j)
    above i j id jd = rw (c.is i j id jd) (at_most_capped (tight (evened p) i j))

    walks : (i j : ℕ) (vs : List ℕ) → i < d → j < d → EachIn (Below d) vs → AtMost (tight (evened p) i j) (walk_sum (cell_at d news) i vs j)
    walks = walks_above d (tight (evened p)) (cell_at d news) (tight_triangle d p known) above

    s : Sums d (cell_at d news) d
    s =
        sums_from d (cell_at d news) (closing_zero d (cell_at d xs) (cell_at d news) c)
        (λ i vs id b. subst (λ z. AtMost z (walk_sum (cell_at d news) i vs i)) (tight_zero p i (c.least.zero i id) (c.halves i id)) (walks i i vs id id b)) d (omega arith)

    f : ℕ → ℕ → Option ℤ
    f = s.sums

    low : (i j : ℕ) → i < d → j < d → AtMost (tight (evened p) i j) (f i j)
    low i j id jd = let r = s.through.reached i j id jd in subst (λ b. AtMost (tight (evened p) i j) b) r.is (walks i j r.by id jd r.each)

    is : (i j : ℕ) → i < d → j < d → cell_at d news i j ≡ capped (tight (evened f) i j)
    is i j id jd =
        let high : AtMost (tight (evened f) i j) (cell_at d news i j) =
        at_most_trans (tight (evened f) i j) (evened f i j) (cell_at d news i j) (lesser_left (evened f i j) (halved (plus (evened f i (bar i)) (evened f (bar j) j))))
        (at_most_trans (evened f i j) (f i j) (cell_at d news i j) (evened_most f i j) (s.through.below i j id jd)) in
        let near : IsNear (2 ^ 66) (cell_at d news i j) = rw (c.is i j id jd) (capped_near (tight (evened p) i j)) in
        let raised : AtMost (cell_at d news i j) (capped (tight (evened f) i j)) = rw (c.is i j id jd) (capped_le (tight (evened p) i j) (tight (evened f) i j) (tight_between d n p f pairs low i j id jd)) in
        let lowered : AtMost (capped (tight (evened f) i j)) (cell_at d news i j) = subst (λ b. AtMost (capped (tight (evened f) i j)) b) (capped_same (cell_at d news i j) near) (capped_le (tight (evened f) i j) (cell_at d news i j) high) in
        at_most_both (cell_at d news i j) (capped (tight (evened f) i j)) raised lowered

-- closing what is closed keeps each bound
pub closed_kept : (d n : ℕ) (xs news : List (Option ℤ)) → d ≡ 2 * n → IsClosing d (cell_at d xs) (cell_at d xs) → IsClosing d (cell_at d xs) (cell_at d news) → (i j : ℕ) → cell_at d news i j ≡ cell_at d xs i j
closed_kept d n xs news pairs c b i j = by (cases_lt i d) (cases_lt j d)
  where
    by : (i < d) ⊎ (d ≤ i) → (j < d) ⊎ (d ≤ j) → cell_at d news i j ≡ cell_at d xs i j
    by (inl id) (inl jd) = closings_same d n (cell_at d xs) (cell_at d news) (cell_at d xs) pairs b c i j id jd
    by (inl id) (inr g) = cell_column_out d news i j g ∙ sym (cell_column_out d xs i j g)
    by (inr g) q = cell_row_out d news i j g ∙ sym (cell_row_out d xs i j g)
