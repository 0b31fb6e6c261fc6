-- Numbers that meet bounds meet their closing.
use Rattle.std.specs.Prelude.{◌≡◌, ◌≢◌, ℕ, ◌<◌, ◌*◌, ◌^◌, ◌==◌, ℤ, pos, neg_ℤ, ◌+ℤ◌, ◌-ℤ◌, ◌≤ℤ◌, Option, Some, None, Bool, true, false, if◌then◌else◌, List, [], ◌∷◌, ◌⊎◌}
use Rattle.std.proofs.Common.{sym, subst, arith, inl, inr}
use Rattle.std.proofs.lemmas.Bool.{cases_eq}
use Rattle.std.proofs.lemmas.Int.{ints}
use Rattle.pk_octclose.proofs.Halves.{evened_here, evened_other}
use Rattle.pk_octclose.specs.Closing.{IsClosing, IsEmpty, evened, there_and_back, tight}
use Rattle.pk_octclose.specs.Walks.{HasLeastSums, walk_sum}
use Rattle.pk_octmat.proofs.Bars.{side_bar}
use Rattle.pk_octmat.proofs.Points.{at_most_capped, capped_most}
use Rattle.pk_octmat.proofs.Tropical.{at_most_same, at_most_trans, lesser_above, lesser_left, plus_le, half_high, half_low}
use Rattle.pk_octmat.specs.Bounds.{AtMost, IsNear, capped, even_down, halved, is_negative, plus}
use Rattle.pk_octmat.specs.Octagon.{Meets, bar, side}

two_steps : (a b c : ℤ) → (c -ℤ a) ≤ℤ ((b -ℤ a) +ℤ (c -ℤ b))
two_steps a b c = omega (arith, ints)

pub member_walk : (e : ℕ → ℕ → Option ℤ) (x : ℕ → ℤ) → Meets e x → (i j : ℕ) (vs : List ℕ) → AtMost (Some (side x j -ℤ side x i)) (walk_sum e i vs j)
member_walk e x m i j [] = m.each i j
member_walk e x m i j (v ∷ vs) =
    at_most_trans (Some (side x j -ℤ side x i)) (plus (Some (side x v -ℤ side x i)) (Some (side x j -ℤ side x v))) (plus (e i v) (walk_sum e v vs j))
    (two_steps (side x i) (side x v) (side x j))
    (plus_le (Some (side x v -ℤ side x i)) (Some (side x j -ℤ side x v)) (e i v) (walk_sum e v vs j) (m.each i v) (member_walk e x m v j vs))

pub member_sums : (d : ℕ) (e p : ℕ → ℕ → Option ℤ) (x : ℕ → ℤ) → Meets e x → HasLeastSums d e p → (i j : ℕ) → i < d → j < d → AtMost (Some (side x j -ℤ side x i)) (p i j)
member_sums d e p x m h i j id jd = let l = h.each i j id jd in subst (λ s. AtMost (Some (side x j -ℤ side x i)) s) l.reached (member_walk e x m i j l.by)

even_holds : (a : ℤ) (b : Option ℤ) → AtMost (Some (neg_ℤ a -ℤ a)) b → AtMost (Some (neg_ℤ a -ℤ a)) (even_down b)
even_holds a None h = tt
even_holds a (Some z) h = omega (arith, ints, h, half_high z)

member_evened : (p : ℕ → ℕ → Option ℤ) (x : ℕ → ℤ) (i j : ℕ) → AtMost (Some (side x j -ℤ side x i)) (p i j) → AtMost (Some (side x j -ℤ side x i)) (evened p i j)
member_evened p x i j h = by (cases_eq j (bar i))
  where
    by : (j ≡ bar i) ⊎ (j ≢ bar i) → AtMost (Some (side x j -ℤ side x i)) (evened p i j)
    by (inr n) = rw (evened_other p i j n) h
    by (inl s) =
        let here : AtMost (Some (side x (bar i) -ℤ side x i)) (p i (bar i)) = subst (λ k. AtMost (Some (side x k -ℤ side x i)) (p i k)) s h in
        let plain : AtMost (Some (neg_ℤ (side x i) -ℤ side x i)) (p i (bar i)) = subst (λ z. AtMost (Some (z -ℤ side x i)) (p i (bar i))) (side_bar x i) here in
        let even : AtMost (Some (neg_ℤ (side x i) -ℤ side x i)) (evened p i (bar i)) = rw (evened_here p i) (even_holds (side x i) (p i (bar i)) plain) in
        let back : AtMost (Some (side x (bar i) -ℤ side x i)) (evened p i (bar i)) = subst (λ z. AtMost (Some (z -ℤ side x i)) (evened p i (bar i))) (sym (side_bar x i)) even in
        subst (λ k. AtMost (Some (side x k -ℤ side x i)) (evened p i k)) (sym s) back

half_holds : (a b : ℤ) (u w : Option ℤ) → AtMost (Some (neg_ℤ a -ℤ a)) u → AtMost (Some (b -ℤ neg_ℤ b)) w → AtMost (Some (b -ℤ a)) (halved (plus u w))
half_holds a b None w p q = tt
half_holds a b (Some u) None p q = tt
half_holds a b (Some u) (Some w) p q = omega (arith, ints, p, q, half_high (u +ℤ w))

member_tight : (d n : ℕ) (p : ℕ → ℕ → Option ℤ) (x : ℕ → ℤ) → d ≡ 2 * n → ((i j : ℕ) → i < d → j < d → AtMost (Some (side x j -ℤ side x i)) (p i j)) → (i j : ℕ) → i < d → j < d → AtMost (Some (side x j -ℤ side x i)) (tight (evened p) i j)
member_tight d n p x pairs h i j id jd =
    let bi : bar i < d = omega (arith, pairs) in
    let bj : bar j < d = omega (arith, pairs) in
    let here = member_evened p x i j (h i j id jd) in
    let left = subst (λ z. AtMost (Some (z -ℤ side x i)) (evened p i (bar i))) (side_bar x i) (member_evened p x i (bar i) (h i (bar i) id bi)) in
    let right = subst (λ z. AtMost (Some (side x j -ℤ z)) (evened p (bar j) j)) (side_bar x j) (member_evened p x (bar j) j (h (bar j) j bj jd)) in
    lesser_above (evened p i j) (halved (plus (evened p i (bar i)) (evened p (bar j) j))) (Some (side x j -ℤ side x i)) here (half_holds (side x i) (side x j) (evened p i (bar i)) (evened p (bar j) j) left right)

pub even_down_most : (b : Option ℤ) → AtMost (even_down b) b
even_down_most None = tt
even_down_most (Some z) = half_low z

pub evened_most : (p : ℕ → ℕ → Option ℤ) (i j : ℕ) → AtMost (evened p i j) (p i j)
evened_most p i j = by (j == bar i)
  where
    by : (t : Bool) → AtMost (if t then even_down (p i j) else p i j) (p i j)
    by true = even_down_most (p i j)
    by false = at_most_same (p i j)

pub closing_most : (d : ℕ) (e r : ℕ → ℕ → Option ℤ) → IsClosing d e r → ((i j : ℕ) → IsNear (2 ^ 66) (e i j)) → (i j : ℕ) → i < d → j < d → AtMost (r i j) (e i j)
closing_most d e r c near i j id jd =
    let p = c.sums in
    let l = c.least.each i j id jd in
    let sums : AtMost (evened p i j) (e i j) = at_most_trans (evened p i j) (p i j) (e i j) (evened_most p i j) (l.least []) in
    rw (c.is i j id jd) (capped_most (tight (evened p) i j) (e i j) (at_most_trans (tight (evened p) i j) (evened p i j) (e i j) (lesser_left (evened p i j) (halved (plus (evened p i (bar i)) (evened p (bar j) j)))) sums) (near i j))

pub closing_holds : (d n : ℕ) (e r : ℕ → ℕ → Option ℤ) → d ≡ 2 * n → IsClosing d e r → (x : ℕ → ℤ) → Meets e x → (i j : ℕ) → i < d → j < d → AtMost (Some (side x j -ℤ side x i)) (r i j)
closing_holds d n e r pairs c x m i j id jd =
    let t = member_tight d n c.sums x pairs (λ a b ad bd. member_sums d e c.sums x m c.least a b ad bd) i j id jd in
    rw (c.is i j id jd) (at_most_trans (Some (side x j -ℤ side x i)) (tight (evened c.sums) i j) (capped (tight (evened c.sums) i j)) t (at_most_capped (tight (evened c.sums) i j)))

not_negative : (z : ℤ) (b : Option ℤ) → z ≡ pos 0 → AtMost (Some z) b → is_negative b ≡ true → ⊥
not_negative z None e h n = absurd (cc)
not_negative z (Some w) e h n = omega (arith, ints, h)

no_change : (a : ℤ) → (a -ℤ a) ≡ pos 0
no_change a = omega (arith, ints)

there_back : (a : ℤ) → ((neg_ℤ a -ℤ a) +ℤ (a -ℤ neg_ℤ a)) ≡ pos 0
there_back a = omega (arith, ints)

-- where closing finds no member there is none
pub empty_none : (d n : ℕ) (e : ℕ → ℕ → Option ℤ) → d ≡ 2 * n → IsEmpty d e → (x : ℕ → ℤ) → Meets e x → ⊥
empty_none d n e pairs (inl c) x m = not_negative (side x c.at -ℤ side x c.at) (walk_sum e c.at c.by c.at) (no_change (side x c.at)) (member_walk e x m c.at c.at c.by) c.negative
empty_none d n e pairs (inr h) x m =
    let i = h.at in
    let p = h.sums in
    let id = h.place in
    let bi : bar i < d = omega (arith, pairs) in
    let to = subst (λ z. AtMost (Some (z -ℤ side x i)) (evened p i (bar i))) (side_bar x i) (member_evened p x i (bar i) (member_sums d e p x m h.least i (bar i) id bi)) in
    let from = subst (λ z. AtMost (Some (side x i -ℤ z)) (evened p (bar i) i)) (side_bar x i) (member_evened p x (bar i) i (member_sums d e p x m h.least (bar i) i bi id)) in
    not_negative ((neg_ℤ (side x i) -ℤ side x i) +ℤ (side x i -ℤ neg_ℤ (side x i))) (there_and_back (evened p) i) (there_back (side x i))
    (plus_le (Some (neg_ℤ (side x i) -ℤ side x i)) (Some (side x i -ℤ neg_ℤ (side x i))) (evened p i (bar i)) (evened p (bar i) i) to from) h.negative
