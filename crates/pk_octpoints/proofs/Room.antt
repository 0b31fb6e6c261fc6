-- Between the bounds on V(p) from above and from below there is room for an integer.
use Rattle.std.specs.Prelude.{◌≡◌, ℕ, zero, suc, ◌<◌, ◌≤◌, ◌*◌, ℤ, pos, neg_ℤ, ◌-ℤ◌, ◌≤ℤ◌, int_lt, Option, Some, None, Bool, true, false, if◌then◌else◌, ◌⊎◌}
use Rattle.std.proofs.Common.{◌∙◌, ap, refl, sym, subst, arith, inl, inr}
use Rattle.std.proofs.lemmas.Bool.{cases_lt}
use Rattle.std.proofs.lemmas.Int.{ints}
use Rattle.pk_octmat.specs.Bounds.{AtMost, plus, halved, even_down, lesser}
use Rattle.pk_octmat.specs.Octagon.{bar}
use Rattle.pk_octmat.proofs.Bars.{bar_bar, bar_in}
use Rattle.pk_octmat.proofs.Tropical.{at_most_same, at_most_trans, half_high, lesser_left, lesser_one, lesser_right, plus_comm, plus_le, plus_none}
use Rattle.pk_octpoints.specs.Tight.{IsTight}
use Rattle.pk_octpoints.specs.Parts.{MeetsThere, bound_by, nearest, lowered, opposite, part_side, raised}
use Rattle.pk_octpoints.proofs.Parts.{part_side_bar}

-- what bound_by is over d places
pub record IsUpper (d : ℕ) (e : ℕ → ℕ → Option ℤ) (x : ℕ → Option ℤ) (p : ℕ) (b : Option ℤ) : Type 0 where
  pub own : AtMost b (halved (e (bar p) p))
  pub each : (i : ℕ) → i < d → AtMost b (plus (part_side x i) (e i p))
  pub one : (b ≡ halved (e (bar p) p)) ⊎ ((i : ℕ) × (i < d) × (b ≡ plus (part_side x i) (e i p)))

pub bound_upper : (d : ℕ) (e : ℕ → ℕ → Option ℤ) (x : ℕ → Option ℤ) (p : ℕ) → IsUpper d e x p (bound_by e x p d)
bound_upper zero e x p = record { own = at_most_same (halved (e (bar p) p)); each = λ i id. absurd (omega arith); one = inl refl }
bound_upper (suc k) e x p = by (bound_upper k e x p)
  where
    b : Option ℤ
    b = bound_by e x p k

    c : Option ℤ
    c = plus (part_side x k) (e k p)

    by : IsUpper k e x p b → IsUpper (suc k) e x p (lesser b c)
    by h = record {
      own = at_most_trans (lesser b c) b (halved (e (bar p) p)) (lesser_left b c) h.own;
      each = λ i id. each i id (cases_lt i k);
      one = one (lesser_one b c) h.one;
    }
      where
        each : (i : ℕ) → i < suc k → (i < k) ⊎ (k ≤ i) → AtMost (lesser b c) (plus (part_side x i) (e i p))
        each i id (inl l) = at_most_trans (lesser b c) b (plus (part_side x i) (e i p)) (lesser_left b c) (h.each i l)
        each i id (inr g) = let same : k ≡ i = omega arith in subst (λ q. AtMost (lesser b c) (plus (part_side x q) (e q p))) same (lesser_right b c)

        one : (lesser b c ≡ b) ⊎ (lesser b c ≡ c) → (b ≡ halved (e (bar p) p)) ⊎ ((i : ℕ) × (i < k) × (b ≡ plus (part_side x i) (e i p)))
            → (lesser b c ≡ halved (e (bar p) p)) ⊎ ((i : ℕ) × (i < suc k) × (lesser b c ≡ plus (part_side x i) (e i p)))
        one (inr s) w = inr (k, omega arith, s)
        one (inl s) (inl w) = inl (s ∙ w)
        one (inl s) (inr w) = inr (w.0, omega (arith, w.1), s ∙ w.2)

-- ---- sums that are 0 or more
halves_room : (s t : Option ℤ) → even_down s ≡ s → even_down t ≡ t → AtMost (Some (pos 0)) (plus s t) → AtMost (Some (pos 0)) (plus (halved s) (halved t))
halves_room s t p q h = both s t (subst (λ b. AtMost (Some (pos 0)) (plus b (even_down t))) (sym p) (subst (λ b. AtMost (Some (pos 0)) (plus s b)) (sym q) h))
  where
    both : (a b : Option ℤ) → AtMost (Some (pos 0)) (plus (even_down a) (even_down b)) → AtMost (Some (pos 0)) (plus (halved a) (halved b))
    both None b h = tt
    both (Some a) None h = tt
    both (Some a) (Some b) h = omega (arith, ints, h)

half_room : (u : ℤ) (w s : Option ℤ) → AtMost (Some (neg_ℤ u -ℤ u)) (plus w (plus s w)) → AtMost (Some (pos 0)) (plus (halved s) (plus (Some u) w))
half_room u w None h = tt
half_room u None (Some s) h = tt
half_room u (Some w) (Some s) h = omega (arith, ints, h, half_high s)

ways_room : (u v : ℤ) (s t : Option ℤ) → AtMost (Some (neg_ℤ v -ℤ u)) (plus s t) → AtMost (Some (pos 0)) (plus (plus (Some u) s) (plus (Some v) t))
ways_room u v None t h = tt
ways_room u v (Some s) None h = tt
ways_room u v (Some s) (Some t) h = omega (arith, ints, h)

-- ---- from the bounds of a tight matrix
room_halves : (n : ℕ) (e : ℕ → ℕ → Option ℤ) → IsTight n e → (p : ℕ) → p < 2 * n → AtMost (Some (pos 0)) (plus (halved (e (bar p) p)) (halved (e p (bar p))))
room_halves n e t p pd =
    let bp = bar_in n p pd in
    let evenly : even_down (e (bar p) p) ≡ e (bar p) p = subst (λ q. even_down (e (bar p) q) ≡ e (bar p) q) (bar_bar p) (t.even (bar p) bp) in
    halves_room (e (bar p) p) (e p (bar p)) evenly (t.even p pd) (subst (λ b. AtMost b (plus (e (bar p) p) (e p (bar p)))) (t.zero (bar p) bp) (t.triangle (bar p) p (bar p) bp pd bp))

opposite_some : (b : Option ℤ) (u : ℤ) → b ≡ Some u → opposite b ≡ Some (neg_ℤ u)
opposite_some b u h = ap opposite h

side_bar_some : (x : ℕ → Option ℤ) (i : ℕ) (u : ℤ) → part_side x i ≡ Some u → part_side x (bar i) ≡ Some (neg_ℤ u)
side_bar_some x i u h = part_side_bar x i ∙ opposite_some (part_side x i) u h

room_half : (n : ℕ) (e : ℕ → ℕ → Option ℤ) (x : ℕ → Option ℤ) → IsTight n e → MeetsThere (2 * n) e x → (p i : ℕ) → p < 2 * n → i < 2 * n → (s : Option ℤ) → part_side x i ≡ s → AtMost (Some (pos 0)) (plus (halved (e (bar p) p)) (plus s (e i (bar p))))
room_half n e x t m p i pd id None r = rw (plus_none (halved (e (bar p) p))) tt
room_half n e x t m p i pd id (Some u) r =
    let bp = bar_in n p pd in
    let bi = bar_in n i id in
    let own : AtMost (Some (neg_ℤ u -ℤ u)) (e i (bar i)) = m.each i (bar i) id bi u (neg_ℤ u) r (side_bar_some x i u r) in
    let back : e p (bar i) ≡ e i (bar p) = t.turned p (bar i) pd bi ∙ ap (λ q. e q (bar p)) (bar_bar i) in
    let rest : AtMost (e (bar p) (bar i)) (plus (e (bar p) p) (e i (bar p))) = subst (λ b. AtMost (e (bar p) (bar i)) (plus (e (bar p) p) b)) back (t.triangle (bar p) p (bar i) bp pd bi) in
    let whole : AtMost (e i (bar i)) (plus (e i (bar p)) (plus (e (bar p) p) (e i (bar p)))) =
    at_most_trans (e i (bar i)) (plus (e i (bar p)) (e (bar p) (bar i))) _ (t.triangle i (bar p) (bar i) id bp bi) (plus_le (e i (bar p)) (e (bar p) (bar i)) (e i (bar p)) _ (at_most_same (e i (bar p))) rest) in
    half_room u (e i (bar p)) (e (bar p) p) (at_most_trans (Some (neg_ℤ u -ℤ u)) (e i (bar i)) _ own whole)

room_ways : (n : ℕ) (e : ℕ → ℕ → Option ℤ) (x : ℕ → Option ℤ) → IsTight n e → MeetsThere (2 * n) e x → (p i j : ℕ) → p < 2 * n → i < 2 * n → j < 2 * n → (s t : Option ℤ) → part_side x i ≡ s → part_side x j ≡ t
    → AtMost (Some (pos 0)) (plus (plus s (e i p)) (plus t (e j (bar p))))
room_ways n e x h m p i j pd id jd None t r q = tt
room_ways n e x h m p i j pd id jd (Some u) None r q = rw (plus_none (plus (Some u) (e i p))) tt
room_ways n e x h m p i j pd id jd (Some u) (Some v) r q =
    let bj = bar_in n j jd in
    let own : AtMost (Some (neg_ℤ v -ℤ u)) (e i (bar j)) = m.each i (bar j) id bj u (neg_ℤ v) r (side_bar_some x j v q) in
    let back : e p (bar j) ≡ e j (bar p) = h.turned p (bar j) pd bj ∙ ap (λ k. e k (bar p)) (bar_bar j) in
    let way : AtMost (e i (bar j)) (plus (e i p) (e j (bar p))) = subst (λ b. AtMost (e i (bar j)) (plus (e i p) b)) back (h.triangle i p (bar j) id pd bj) in
    ways_room u v (e i p) (e j (bar p)) (at_most_trans (Some (neg_ℤ v -ℤ u)) (e i (bar j)) _ own way)

-- there is room for V(p)
pub room : (n : ℕ) (e : ℕ → ℕ → Option ℤ) (x : ℕ → Option ℤ) → IsTight n e → MeetsThere (2 * n) e x → (p : ℕ) → p < 2 * n → (high low : Option ℤ) → IsUpper (2 * n) e x p high → IsUpper (2 * n) e x (bar p) low → AtMost (Some (pos 0)) (plus high low)
room n e x t m p pd high low a b = by a.one b.one
  where
    same : halved (e (bar (bar p)) (bar p)) ≡ halved (e p (bar p))
    same = ap (λ q. halved (e q (bar p))) (bar_bar p)

    by : (high ≡ halved (e (bar p) p)) ⊎ ((i : ℕ) × (i < 2 * n) × (high ≡ plus (part_side x i) (e i p))) → (low ≡ halved (e (bar (bar p)) (bar p))) ⊎ ((j : ℕ) × (j < 2 * n) × (low ≡ plus (part_side x j) (e j (bar p))))
        → AtMost (Some (pos 0)) (plus high low)
    by (inl f) (inl g) = rw f (rw g (rw same (room_halves n e t p pd)))
    by (inl f) (inr g) = rw f (rw g.2 (room_half n e x t m p g.0 pd g.1 (part_side x g.0) refl))
    by (inr f) (inl g) =
        let bp = bar_in n p pd in
        let turned : AtMost (Some (pos 0)) (plus (halved (e (bar (bar p)) (bar p))) (plus (part_side x f.0) (e f.0 p))) =
        subst (λ q. AtMost (Some (pos 0)) (plus (halved (e (bar (bar p)) (bar p))) (plus (part_side x f.0) (e f.0 q)))) (bar_bar p) (room_half n e x t m (bar p) f.0 bp f.1 (part_side x f.0) refl) in
        rw f.2 (rw g (subst (λ b. AtMost (Some (pos 0)) b) (plus_comm (halved (e (bar (bar p)) (bar p))) (plus (part_side x f.0) (e f.0 p))) turned))
    by (inr f) (inr g) = rw f.2 (rw g.2 (room_ways n e x t m p f.0 g.0 pd f.1 g.1 (part_side x f.0) (part_side x g.0) refl refl))

-- ---- the nearest number
pub raised_above : (w : ℤ) (low : Option ℤ) → w ≤ℤ raised w low
raised_above w None = omega (arith, ints)
raised_above w (Some l) = by (int_lt w (neg_ℤ l)) refl
  where
    by : (t : Bool) → int_lt w (neg_ℤ l) ≡ t → w ≤ℤ (if t then neg_ℤ l else w)
    by true e = omega (arith, ints)
    by false e = omega (arith, ints)

raised_low : (w : ℤ) (low : Option ℤ) → AtMost (Some (neg_ℤ (raised w low))) low
raised_low w None = tt
raised_low w (Some l) = by (int_lt w (neg_ℤ l)) refl
  where
    by : (t : Bool) → int_lt w (neg_ℤ l) ≡ t → neg_ℤ (if t then neg_ℤ l else w) ≤ℤ l
    by true e = omega (arith, ints)
    by false e = omega (arith, ints)

raised_one : (w : ℤ) (low : Option ℤ) → (raised w low ≡ w) ⊎ (low ≡ Some (neg_ℤ (raised w low)))
raised_one w None = inl refl
raised_one w (Some l) = by (int_lt w (neg_ℤ l)) refl
  where
    by : (t : Bool) → int_lt w (neg_ℤ l) ≡ t → ((if t then neg_ℤ l else w) ≡ w) ⊎ (Some l ≡ Some (neg_ℤ (if t then neg_ℤ l else w)))
    by true e = inr (ap (λ (z : ℤ). Some z) (omega (arith, ints)))
    by false e = inl refl

pub lowered_below : (w : ℤ) (high : Option ℤ) → lowered w high ≤ℤ w
lowered_below w None = omega (arith, ints)
lowered_below w (Some h) = by (int_lt h w) refl
  where
    by : (t : Bool) → int_lt h w ≡ t → (if t then h else w) ≤ℤ w
    by true e = omega (arith, ints)
    by false e = omega (arith, ints)

pub lowered_high : (w : ℤ) (high : Option ℤ) → AtMost (Some (lowered w high)) high
lowered_high w None = tt
lowered_high w (Some h) = by (int_lt h w) refl
  where
    by : (t : Bool) → int_lt h w ≡ t → (if t then h else w) ≤ℤ h
    by true e = omega (arith, ints)
    by false e = omega (arith, ints)

lowered_reach : (w t : ℤ) (high : Option ℤ) → t ≤ℤ w → AtMost (Some t) high → t ≤ℤ lowered w high
lowered_reach w t None p q = p
lowered_reach w t (Some h) p q = by (int_lt h w)
  where
    by : (s : Bool) → t ≤ℤ (if s then h else w)
    by true = q
    by false = p

pub nearest_high : (w : ℤ) (high low : Option ℤ) → AtMost (Some (nearest w high low)) high
nearest_high w high low = lowered_high (raised w low) high

-- where there is room, the other bound is met too
kept_low : (high low : Option ℤ) (r : ℤ) → AtMost (Some (pos 0)) (plus high low) → AtMost (Some (neg_ℤ r)) low → AtMost (Some (neg_ℤ (lowered r high))) low
kept_low None low r h k = k
kept_low (Some a) None r h k = tt
kept_low (Some a) (Some l) r h k = by (int_lt a r)
  where
    by : (t : Bool) → neg_ℤ (if t then a else r) ≤ℤ l
    by true = omega (arith, ints, h)
    by false = k

pub nearest_low : (w : ℤ) (high low : Option ℤ) → AtMost (Some (pos 0)) (plus high low) → AtMost (Some (neg_ℤ (nearest w high low))) low
nearest_low w high low h = kept_low high low (raised w low) h (raised_low w low)

pub nearest_reach : (w : ℤ) (high low : Option ℤ) → AtMost (Some w) high → w ≤ℤ nearest w high low
nearest_reach w high low h = lowered_reach (raised w low) w high (raised_above w low) h

-- it is at most what was wished, or the least of all
pub nearest_most : (w : ℤ) (high low : Option ℤ) → AtMost (Some (pos 0)) (plus high low) → (nearest w high low ≤ℤ w) ⊎ (low ≡ Some (neg_ℤ (nearest w high low)))
nearest_most w high low h = by (raised_one w low)
  where
    least : (r : ℤ) → low ≡ Some (neg_ℤ r) → lowered r high ≡ r
    least r q = at high (subst (λ b. AtMost (Some (pos 0)) (plus high b)) q h)
      where
        at : (a : Option ℤ) → AtMost (Some (pos 0)) (plus a (Some (neg_ℤ r))) → lowered r a ≡ r
        at None k = refl
        at (Some a) k = by (int_lt a r) refl
          where
            by : (t : Bool) → int_lt a r ≡ t → (if t then a else r) ≡ r
            by true e = absurd (omega (arith, ints, k))
            by false e = refl

    by : (raised w low ≡ w) ⊎ (low ≡ Some (neg_ℤ (raised w low))) → (nearest w high low ≤ℤ w) ⊎ (low ≡ Some (neg_ℤ (nearest w high low)))
    by (inl s) = inl (subst (λ z. lowered (raised w low) high ≤ℤ z) s (lowered_below (raised w low) high))
    by (inr s) = inr (s ∙ ap (λ (z : ℤ). Some (neg_ℤ z)) (sym (least (raised w low) s)))
