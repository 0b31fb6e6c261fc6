-- Each number up to a bound of a tight matrix is attained.
use Rattle.std.specs.Prelude.{◌≡◌, ◌≢◌, ℕ, zero, suc, ◌<◌, ◌≤◌, ◌*◌, ◌/◌, ◌%◌, ◌==◌, ℤ, pos, neg_ℤ, ◌+ℤ◌, ◌-ℤ◌, ◌≤ℤ◌, Option, Some, None, Bool, true, false, if◌then◌else◌, ◌⊎◌}
use Rattle.std.specs.Int.{int_div_euclid}
use Rattle.std.proofs.Common.{◌∙◌, ap, refl, sym, subst, arith, inl, inr}
use Rattle.std.proofs.lemmas.Bool.Decides.{nat_tests}
use Rattle.std.proofs.lemmas.Bool.{cases_eq, cases_lt}
use Rattle.std.proofs.lemmas.Int.{ints}
use Rattle.pk_octmat.specs.Bounds.{AtMost, plus, halved, even_down}
use Rattle.pk_octmat.specs.Octagon.{Octagon, bar, entry, side, Meets}
use Rattle.pk_octmat.proofs.Cells.{cell_column_out, cell_row_out}
use Rattle.pk_octmat.proofs.Bars.{bar_bar, bar_in}
use Rattle.pk_octmat.proofs.Tropical.{at_most_trans, half_high, half_low}
use Rattle.pk_octpoints.specs.Tight.{HasPoint, IsTight, Reaches}
use Rattle.pk_octpoints.specs.Parts.{AreApart, IsFirst, IsLow, MeetsThere, bound_by, lowered, nearest, opposite, part_side, signed, wish, with_part, with_nearest}
use Rattle.pk_octpoints.specs.Points.{number_or_zero}
use Rattle.pk_octpoints.proofs.Parts.{part_here, part_none, part_same, part_side_bar}
use Rattle.pk_octpoints.proofs.Placed.{placed_nearest, some_one}
use Rattle.pk_octpoints.proofs.Room.{IsUpper, bound_upper, lowered_below, lowered_high, nearest_most, nearest_reach, room}

-- ---- all numbers
abbrev pub HasNumber : (ℕ → Option ℤ) → ℕ → Type 0
HasNumber x k = (v : ℤ) × (x k ≡ Some v)

-- a point of which the first k numbers are there, and what was there before
pub record FilledTo (d : ℕ) (e : ℕ → ℕ → Option ℤ) (x : ℕ → Option ℤ) (k : ℕ) : Type 0 where
  pub part : ℕ → Option ℤ
  pub meets : MeetsThere d e part
  pub kept : (i : ℕ) (v : ℤ) → x i ≡ Some v → part i ≡ Some v
  pub there : (i : ℕ) → i < k → HasNumber part i

even_half : (k : ℕ) → (2 * k) / 2 ≡ k
even_half k = omega arith

with_same : (x : ℕ → Option ℤ) (k : ℕ) (v : ℤ) → with_part x k v k ≡ Some v
with_same x k v = let same : (k == k) ≡ true = grind (arith, nat_tests) in rw same refl

with_other : (x : ℕ → Option ℤ) (k i : ℕ) (v : ℤ) → i ≢ k → with_part x k v i ≡ x i
with_other x k i v n = let no : (i == k) ≡ false = grind (arith, nat_tests) in rw no refl

pub filled : (n : ℕ) (e : ℕ → ℕ → Option ℤ) (x : ℕ → Option ℤ) → IsTight n e → MeetsThere (2 * n) e x → (k : ℕ) → k ≤ n → FilledTo (2 * n) e x k
filled n e x t m zero kn = record { part = x; meets = m; kept = λ i v h. h; there = λ i h. absurd (omega arith) }
filled n e x t m (suc k) kn = by (filled n e x t m k (omega arith))
  where
    by : FilledTo (2 * n) e x k → FilledTo (2 * n) e x (suc k)
    by f = at (f.part k) refl
      where
        at : (o : Option ℤ) → f.part k ≡ o → FilledTo (2 * n) e x (suc k)
        at (Some v) h = record { part = f.part; meets = f.meets; kept = f.kept; there = λ i id. there i id (cases_lt i k) }
          where
            there : (i : ℕ) → i < suc k → (i < k) ⊎ (k ≤ i) → HasNumber f.part i
            there i id (inl l) = f.there i l
            there i id (inr g) = let same : k ≡ i = omega arith in subst (HasNumber f.part) same (v, h)
        at None h =
            let pd : 2 * k < 2 * n = omega arith in
            record { part = y; meets = placed_nearest n e f.part t f.meets (2 * k) (pos 0) pd; kept = kept; there = λ i id. there i id (cases_eq i k) }
          where
            v : ℤ
            v = signed (2 * k) (nearest (pos 0) (bound_by e f.part (2 * k) (2 * n)) (bound_by e f.part (bar (2 * k)) (2 * n)))

            y : ℕ → Option ℤ
            y = with_nearest (2 * n) e f.part (2 * k) (pos 0)

            new : y k ≡ Some v
            new = subst (λ q. with_part f.part q v k ≡ Some v) (sym (even_half k)) (with_same f.part k v)

            old : (i : ℕ) → i ≢ k → y i ≡ f.part i
            old i s = subst (λ q. with_part f.part q v i ≡ f.part i) (sym (even_half k)) (with_other f.part k i v s)

            kept : (i : ℕ) (w : ℤ) → x i ≡ Some w → y i ≡ Some w
            kept i w g = here (cases_eq i k)
              where
                here : (i ≡ k) ⊎ (i ≢ k) → y i ≡ Some w
                here (inl s) = let none : None ≡ Some w = sym h ∙ subst (λ q. f.part q ≡ Some w) s (f.kept i w g) in absurd (cc)
                here (inr s) = old i s ∙ f.kept i w g

            there : (i : ℕ) → i < suc k → (i ≡ k) ⊎ (i ≢ k) → HasNumber y i
            there i id (inl s) = subst (HasNumber y) (sym s) (v, new)
            there i id (inr s) = let w = f.there i (omega arith) in (w.0, old i s ∙ w.1)

-- the numbers of a point
abbrev pub numbers : (ℕ → Option ℤ) → ℕ → ℤ
numbers x k = number_or_zero (x k)

pub side_there : (x : ℕ → Option ℤ) (i : ℕ) → HasNumber x (i / 2) → part_side x i ≡ Some (side (numbers x) i)
side_there x i h = by ((i % 2) == 0)
  where
    by : (t : Bool) → (if t then x (i / 2) else opposite (x (i / 2))) ≡ Some (if t then number_or_zero (x (i / 2)) else neg_ℤ (number_or_zero (x (i / 2))))
    by true = rw h.1 refl
    by false = rw h.1 refl

-- a point all of whose numbers are there meets the matrix
pub whole_meets : (n : ℕ) (e : ℕ → ℕ → Option ℤ) (x : ℕ → Option ℤ) → MeetsThere (2 * n) e x → ((i : ℕ) → i < n → HasNumber x i) → ((i j : ℕ) → 2 * n ≤ i → e i j ≡ None) → ((i j : ℕ) → 2 * n ≤ j → e i j ≡ None) → Meets e (numbers x)
whole_meets n e x m there row column = record { each = λ i j. each i j (cases_lt i (2 * n)) (cases_lt j (2 * n)) }
  where
    each : (i j : ℕ) → (i < 2 * n) ⊎ (2 * n ≤ i) → (j < 2 * n) ⊎ (2 * n ≤ j) → AtMost (Some (side (numbers x) j -ℤ side (numbers x) i)) (e i j)
    each i j (inl id) (inl jd) = m.each i j id jd (side (numbers x) i) (side (numbers x) j) (side_there x i (there (i / 2) (omega arith))) (side_there x j (there (j / 2) (omega arith)))
    each i j (inl id) (inr g) = rw (column i j g) tt
    each i j (inr g) q = rw (row i j g) tt

-- ---- no number is there yet
abbrev pub nothing : ℕ → Option ℤ
nothing k = None

-- where no number is there, each bound is met
pub nothing_meets : (d : ℕ) (e : ℕ → ℕ → Option ℤ) (x : ℕ → Option ℤ) → ((k : ℕ) → x k ≡ None) → MeetsThere d e x
nothing_meets d e x none = record { each = λ i j id jd u v f g. let no : None ≡ Some u = sym (part_none x i (none (i / 2))) ∙ f in absurd (cc) }

-- the bound on V(p) is its own half then
nothing_bound : (n : ℕ) (e : ℕ → ℕ → Option ℤ) (x : ℕ → Option ℤ) (p : ℕ) (b : Option ℤ) (v : ℤ) → ((k : ℕ) → x k ≡ None) → IsUpper (2 * n) e x p b → b ≡ Some v → halved (e (bar p) p) ≡ Some v
nothing_bound n e x p b v none a s = by a.one
  where
    by : (b ≡ halved (e (bar p) p)) ⊎ ((i : ℕ) × (i < 2 * n) × (b ≡ plus (part_side x i) (e i p))) → halved (e (bar p) p) ≡ Some v
    by (inl f) = sym f ∙ s
    by (inr f) = let no : None ≡ Some v = sym (f.2 ∙ ap (λ o. plus o (e f.0 p)) (part_none x f.0 (none (f.0 / 2)))) ∙ s in absurd (cc)

-- ---- the wish
wish_first : (c : ℤ) (high over : Option ℤ) → AtMost (Some (wish c high over)) (plus high (Some (neg_ℤ c)))
wish_first c high over = below (plus high (Some (neg_ℤ c))) (lowered_below (lowered (pos 0) (plus high (Some (neg_ℤ c)))) (halved (plus over (Some (neg_ℤ c))))) (lowered_high (pos 0) (plus high (Some (neg_ℤ c))))
  where
    below : {a b : ℤ} (o : Option ℤ) → a ≤ℤ b → AtMost (Some b) o → AtMost (Some a) o
    below None h k = tt
    below (Some z) h k = omega (arith, ints, h, k)

wish_second : (c : ℤ) (high over : Option ℤ) → AtMost (Some (wish c high over)) (halved (plus over (Some (neg_ℤ c))))
wish_second c high over = lowered_high (lowered (pos 0) (plus high (Some (neg_ℤ c)))) (halved (plus over (Some (neg_ℤ c))))

high_wish : (v w c : ℤ) (b : Option ℤ) → v ≤ℤ w → AtMost (Some w) (plus b (Some (neg_ℤ c))) → AtMost (Some (v +ℤ c)) b
high_wish v w c None h k = tt
high_wish v w c (Some b) h k = omega (arith, ints, h, k)

high_least : (v c : ℤ) (s t : Option ℤ) → even_down s ≡ s → halved s ≡ Some (neg_ℤ v) → AtMost (Some c) (halved (plus s t)) → AtMost (Some (v +ℤ c)) (halved t)
high_least v c s None e h k = tt
high_least v c None (Some t) e h k = absurd (cc)
high_least v c (Some s) (Some t) e h k =
    let half : int_div_euclid s (pos 2) ≡ neg_ℤ v = some_one (int_div_euclid s (pos 2)) (neg_ℤ v) h in
    let whole : (int_div_euclid s (pos 2) +ℤ int_div_euclid s (pos 2)) ≡ s = some_one (int_div_euclid s (pos 2) +ℤ int_div_euclid s (pos 2)) s e in
    by (int_div_euclid s (pos 2)) half whole (half_low (s +ℤ t)) (half_high t)
  where
    by : (z : ℤ) → z ≡ neg_ℤ v → (z +ℤ z) ≡ s → (int_div_euclid (s +ℤ t) (pos 2) +ℤ int_div_euclid (s +ℤ t) (pos 2)) ≤ℤ (s +ℤ t) → t ≤ℤ (int_div_euclid t (pos 2) +ℤ int_div_euclid t (pos 2) +ℤ pos 1) → (v +ℤ c) ≤ℤ int_div_euclid t (pos 2)
    by z p q l g = omega (arith, ints, p, q, l, g, k)

over_wish : (v w c : ℤ) (b : Option ℤ) → v ≤ℤ w → AtMost (Some w) (halved (plus b (Some (neg_ℤ c)))) → AtMost (Some (v +ℤ c)) (plus (Some (neg_ℤ v)) b)
over_wish v w c None h k = tt
over_wish v w c (Some b) h k = by (int_div_euclid (b +ℤ neg_ℤ c) (pos 2)) (half_low (b +ℤ neg_ℤ c)) k
  where
    by : (z : ℤ) → (z +ℤ z) ≤ℤ (b +ℤ neg_ℤ c) → w ≤ℤ z → (v +ℤ c) ≤ℤ (neg_ℤ v +ℤ b)
    by z p q = omega (arith, ints, p, q, h)

over_least : (v c : ℤ) (s b : Option ℤ) → even_down s ≡ s → halved s ≡ Some (neg_ℤ v) → AtMost (Some c) (plus s b) → AtMost (Some (v +ℤ c)) (plus (Some (neg_ℤ v)) b)
over_least v c s None e h k = tt
over_least v c None (Some b) e h k = absurd (cc)
over_least v c (Some s) (Some b) e h k =
    let half : int_div_euclid s (pos 2) ≡ neg_ℤ v = some_one (int_div_euclid s (pos 2)) (neg_ℤ v) h in
    let whole : (int_div_euclid s (pos 2) +ℤ int_div_euclid s (pos 2)) ≡ s = some_one (int_div_euclid s (pos 2) +ℤ int_div_euclid s (pos 2)) s e in
    by (int_div_euclid s (pos 2)) half whole
  where
    by : (z : ℤ) → z ≡ neg_ℤ v → (z +ℤ z) ≡ s → (v +ℤ c) ≤ℤ (neg_ℤ v +ℤ b)
    by z p q = omega (arith, ints, p, q, k)

-- the bounds on V(j) leave V(i) + c
pub high_far : (n : ℕ) (e : ℕ → ℕ → Option ℤ) → IsTight n e → (i j : ℕ) → i < 2 * n → j < 2 * n → (c v : ℤ) → AtMost (Some c) (e i j) → IsLow e i j c v → AtMost (Some (v +ℤ c)) (halved (e (bar j) j))
high_far n e t i j id jd c v h (inl l) = high_wish v (wish c (halved (e (bar j) j)) (e (bar i) j)) c (halved (e (bar j) j)) l (wish_first c (halved (e (bar j) j)) (e (bar i) j))
high_far n e t i j id jd c v h (inr l) = high_least v c (e i (bar i)) (e (bar j) j) (t.even i id) l (at_most_trans (Some c) (e i j) (halved (plus (e i (bar i)) (e (bar j) j))) h (t.strong i j id jd))

pub over_far : (n : ℕ) (e : ℕ → ℕ → Option ℤ) → IsTight n e → (i j : ℕ) → i < 2 * n → j < 2 * n → (c v : ℤ) → AtMost (Some c) (e i j) → IsLow e i j c v → AtMost (Some (v +ℤ c)) (plus (Some (neg_ℤ v)) (e (bar i) j))
over_far n e t i j id jd c v h (inl l) = over_wish v (wish c (halved (e (bar j) j)) (e (bar i) j)) c (e (bar i) j) l (wish_second c (halved (e (bar j) j)) (e (bar i) j))
over_far n e t i j id jd c v h (inr l) = over_least v c (e i (bar i)) (e (bar i) j) (t.even i id) l (at_most_trans (Some c) (e i j) (plus (e i (bar i)) (e (bar i) j)) h (t.triangle i (bar i) j id (bar_in n i id) jd))

pub straight : (v c : ℤ) (b : Option ℤ) → AtMost (Some c) b → AtMost (Some (v +ℤ c)) (plus (Some v) b)
straight v c None h = tt
straight v c (Some b) h = omega (arith, ints, h)

-- ---- V(i) first
first_low : (n : ℕ) (e : ℕ → ℕ → Option ℤ) (x : ℕ → Option ℤ) → IsTight n e → ((k : ℕ) → x k ≡ None) → (i j : ℕ) (c : ℤ) → i < 2 * n
    → IsLow e i j c (nearest (wish c (halved (e (bar j) j)) (e (bar i) j)) (bound_by e x i (2 * n)) (bound_by e x (bar i) (2 * n)))
first_low n e x t none i j c id = by (nearest_most w high low (room n e x t (nothing_meets (2 * n) e x none) i id high low a b))
  where
    w : ℤ
    w = wish c (halved (e (bar j) j)) (e (bar i) j)

    high : Option ℤ
    high = bound_by e x i (2 * n)

    low : Option ℤ
    low = bound_by e x (bar i) (2 * n)

    a : IsUpper (2 * n) e x i high
    a = bound_upper (2 * n) e x i

    b : IsUpper (2 * n) e x (bar i) low
    b = bound_upper (2 * n) e x (bar i)

    v : ℤ
    v = nearest w high low

    by : (v ≤ℤ w) ⊎ (low ≡ Some (neg_ℤ v)) → IsLow e i j c v
    by (inl l) = inl l
    by (inr l) = inr (subst (λ q. halved (e q (bar i)) ≡ Some (neg_ℤ v)) (bar_bar i) (nothing_bound n e x (bar i) low (neg_ℤ v) none b l))

-- what is there once V(i) has been given the number nearest to its wish
pub first_is : (n : ℕ) (e : ℕ → ℕ → Option ℤ) (x y : ℕ → Option ℤ) → IsTight n e → ((k : ℕ) → x k ≡ None) → (i j : ℕ) (c w : ℤ) → i < 2 * n → w ≡ wish c (halved (e (bar j) j)) (e (bar i) j)
    → part_side y i ≡ Some (nearest w (bound_by e x i (2 * n)) (bound_by e x (bar i) (2 * n))) → ((k : ℕ) → k ≢ i / 2 → y k ≡ x k) → IsFirst e i j c y
first_is n e x y t none i j c w id is here others = record {
  from = nearest w (bound_by e x i (2 * n)) (bound_by e x (bar i) (2 * n));
  here = here;
  low = subst (λ z. IsLow e i j c (nearest z (bound_by e x i (2 * n)) (bound_by e x (bar i) (2 * n)))) (sym is) (first_low n e x t none i j c id);
  others = λ q m. part_none y q (others (q / 2) m ∙ none (q / 2));
}

-- ---- then V(j): the bounds leave it V(i) + c
second_far : (n : ℕ) (e : ℕ → ℕ → Option ℤ) (x : ℕ → Option ℤ) → IsTight n e → (i j : ℕ) (c : ℤ) → i < 2 * n → j < 2 * n → AtMost (Some c) (e i j) → (f : IsFirst e i j c x) → (high : Option ℤ)
    → IsUpper (2 * n) e x j high → AtMost (Some (f.from +ℤ c)) high
second_far n e x t i j c id jd h f high a = by a.one
  where
    v : ℤ
    v = f.from

    at : (q : ℕ) → (q ≡ i) ⊎ (q ≢ i) → (q ≡ bar i) ⊎ (q ≢ bar i) → AtMost (Some (v +ℤ c)) (plus (part_side x q) (e q j))
    at q (inl s) r = subst (λ k. AtMost (Some (v +ℤ c)) (plus (part_side x k) (e k j))) (sym s) (subst (λ o. AtMost (Some (v +ℤ c)) (plus o (e i j))) (sym f.here) (straight v c (e i j) h))
    at q (inr s) (inl r) =
        let side : part_side x (bar i) ≡ Some (neg_ℤ v) = part_side_bar x i ∙ ap opposite f.here in
        subst (λ k. AtMost (Some (v +ℤ c)) (plus (part_side x k) (e k j))) (sym r) (subst (λ o. AtMost (Some (v +ℤ c)) (plus o (e (bar i) j))) (sym side) (over_far n e t i j id jd c v h f.low))
    at q (inr s) (inr r) = subst (λ o. AtMost (Some (v +ℤ c)) (plus o (e q j))) (sym (f.others q (omega arith))) tt

    by : (high ≡ halved (e (bar j) j)) ⊎ ((q : ℕ) × (q < 2 * n) × (high ≡ plus (part_side x q) (e q j))) → AtMost (Some (v +ℤ c)) high
    by (inl g) = rw g (high_far n e t i j id jd c v h f.low)
    by (inr g) = rw g.2 (at g.0 (cases_eq g.0 i) (cases_eq g.0 (bar i)))

pub second_is : (n : ℕ) (e : ℕ → ℕ → Option ℤ) (x y : ℕ → Option ℤ) → IsTight n e → (i j : ℕ) (c w : ℤ) → i < 2 * n → j < 2 * n → i / 2 ≢ j / 2 → AtMost (Some c) (e i j) → (f : IsFirst e i j c x) → w ≡ f.from +ℤ c
    → part_side y j ≡ Some (nearest w (bound_by e x j (2 * n)) (bound_by e x (bar j) (2 * n))) → ((k : ℕ) → k ≢ j / 2 → y k ≡ x k) → AreApart i j c y
second_is n e x y t i j c w id jd m h f is here others = record {
  from = f.from;
  to = nearest w high low;
  first = part_same x y i (others (i / 2) m) ∙ f.here;
  second = here;
  far = subst (λ z. z ≤ℤ nearest w high low) is (nearest_reach w high low (subst (λ z. AtMost (Some z) high) (sym is) (second_far n e x t i j c id jd h f high (bound_upper (2 * n) e x j))));
}
  where
    high : Option ℤ
    high = bound_by e x j (2 * n)

    low : Option ℤ
    low = bound_by e x (bar j) (2 * n)

-- or V(j) is the negative of V(i)
pub second_own : (n : ℕ) (e : ℕ → ℕ → Option ℤ) (x : ℕ → Option ℤ) → IsTight n e → (i j : ℕ) (c : ℤ) → i < 2 * n → j < 2 * n → i ≢ j → i / 2 ≡ j / 2 → AtMost (Some c) (e i j) → IsFirst e i j c x → AreApart i j c x
second_own n e x t i j c id jd m same h f = record {
  from = f.from;
  to = neg_ℤ f.from;
  first = f.here;
  second = subst (λ q. part_side x q ≡ Some (neg_ℤ f.from)) (sym is) (part_side_bar x i ∙ ap opposite f.here);
  far = own f.from (e (bar i) j) (subst (λ q. e (bar i) q ≡ Some (pos 0)) (sym is) (t.zero (bar i) (bar_in n i id))) (over_far n e t i j id jd c f.from h f.low);
}
  where
    is : j ≡ bar i
    is = omega (arith, m, same)

    own : (v : ℤ) (b : Option ℤ) → b ≡ Some (pos 0) → AtMost (Some (v +ℤ c)) (plus (Some (neg_ℤ v)) b) → (v +ℤ c) ≤ℤ neg_ℤ v
    own v None z k = absurd (cc)
    own v (Some b) z k = let zero : b ≡ pos 0 = some_one b (pos 0) z in omega (arith, ints, zero, k)

-- two numbers that are far enough apart
record Seed (n : ℕ) (e : ℕ → ℕ → Option ℤ) (i j : ℕ) (c : ℤ) : Type 0 where
  part : ℕ → Option ℤ
  meets : MeetsThere (2 * n) e part
  apart : AreApart i j c part

seed : (n : ℕ) (e : ℕ → ℕ → Option ℤ) → IsTight n e → (i j : ℕ) (c : ℤ) → i < 2 * n → j < 2 * n → i ≢ j → AtMost (Some c) (e i j) → Seed n e i j c
seed n e t i j c id jd apart h = by (cases_eq (i / 2) (j / 2))
  where
    w : ℤ
    w = wish c (halved (e (bar j) j)) (e (bar i) j)

    x : ℕ → Option ℤ
    x = with_nearest (2 * n) e nothing i w

    met : MeetsThere (2 * n) e x
    met = placed_nearest n e nothing t (nothing_meets (2 * n) e nothing (λ k. refl)) i w id

    v : ℤ
    v = nearest w (bound_by e nothing i (2 * n)) (bound_by e nothing (bar i) (2 * n))

    f : IsFirst e i j c x
    f = first_is n e nothing x t (λ k. refl) i j c w id refl (part_here nothing i v) (λ k m. with_other nothing (i / 2) k (signed i v) m)

    by : (i / 2 ≡ j / 2) ⊎ (i / 2 ≢ j / 2) → Seed n e i j c
    by (inl s) = record { part = x; meets = met; apart = second_own n e x t i j c id jd apart s h f }
    by (inr s) = record {
      part = with_nearest (2 * n) e x j u;
      meets = placed_nearest n e x t met j u jd;
      apart = second_is n e x (with_nearest (2 * n) e x j u) t i j c u id jd s h f refl (part_here x j z) (λ k m. with_other x (j / 2) k (signed j z) m);
    }
      where
        u : ℤ
        u = f.from +ℤ c

        z : ℤ
        z = nearest u (bound_by e x j (2 * n)) (bound_by e x (bar j) (2 * n))

-- ---- the theorem
abbrev pub IsOutside : ℕ → (ℕ → ℕ → Option ℤ) → Type 0
IsOutside n e = ((i j : ℕ) → 2 * n ≤ i → e i j ≡ None) × ((i j : ℕ) → 2 * n ≤ j → e i j ≡ None)

pub outside : (m : Octagon) → IsOutside m.vars (entry m)
outside m = (λ i j g. cell_row_out (2 * m.vars) m.cells i j g, λ i j g. cell_column_out (2 * m.vars) m.cells i j g)

pub some_point : (n : ℕ) (e : ℕ → ℕ → Option ℤ) → IsTight n e → IsOutside n e → HasPoint e
some_point n e t out = let f = filled n e nothing t (nothing_meets (2 * n) e nothing (λ k. refl)) n (omega arith) in record { point = numbers f.part; meets = whole_meets n e f.part f.meets f.there out.0 out.1 }

pub side_kept : (x y : ℕ → Option ℤ) → ((i : ℕ) (v : ℤ) → x i ≡ Some v → y i ≡ Some v) → (i : ℕ) (v : ℤ) → part_side x i ≡ Some v → part_side y i ≡ Some v
side_kept x y kept i v h = by ((i % 2) == 0) h
  where
    turn : (a b : Option ℤ) → ((w : ℤ) → a ≡ Some w → b ≡ Some w) → opposite a ≡ Some v → opposite b ≡ Some v
    turn None b k g = absurd (cc)
    turn (Some w) b k g = ap opposite (k w refl) ∙ g

    by : (t : Bool) → (if t then x (i / 2) else opposite (x (i / 2))) ≡ Some v → (if t then y (i / 2) else opposite (y (i / 2))) ≡ Some v
    by true g = kept (i / 2) v g
    by false g = turn (x (i / 2)) (y (i / 2)) (kept (i / 2)) g

pub attained : (n : ℕ) (e : ℕ → ℕ → Option ℤ) → IsTight n e → IsOutside n e → (i j : ℕ) (c : ℤ) → i < 2 * n → j < 2 * n → i ≢ j → AtMost (Some c) (e i j) → Reaches e i j c
attained n e t out i j c id jd apart h = by (seed n e t i j c id jd apart h)
  where
    by : Seed n e i j c → Reaches e i j c
    by s = fill (filled n e s.part t s.meets n (omega arith))
      where
        fill : FilledTo (2 * n) e s.part n → Reaches e i j c
        fill f = record { point = numbers f.part; meets = whole_meets n e f.part f.meets f.there out.0 out.1; far = far }
          where
            from : side (numbers f.part) i ≡ s.apart.from
            from = some_one (side (numbers f.part) i) s.apart.from (sym (side_there f.part i (f.there (i / 2) (omega arith))) ∙ side_kept s.part f.part f.kept i s.apart.from s.apart.first)

            to : side (numbers f.part) j ≡ s.apart.to
            to = some_one (side (numbers f.part) j) s.apart.to (sym (side_there f.part j (f.there (j / 2) (omega arith))) ∙ side_kept s.part f.part f.kept j s.apart.to s.apart.second)

            between : (a b : ℤ) → (a +ℤ c) ≤ℤ b → c ≤ℤ (b -ℤ a)
            between a b l = omega (arith, ints, l)

            far : c ≤ℤ (side (numbers f.part) j -ℤ side (numbers f.part) i)
            far = rw from (rw to (between s.apart.from s.apart.to s.apart.far))
