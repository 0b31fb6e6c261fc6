-- A number more meets the bounds to those that are there.
use Rattle.std.specs.Prelude.{◌≡◌, ◌≢◌, ℕ, ◌<◌, ◌*◌, ◌/◌, ℤ, pos, neg_ℤ, ◌-ℤ◌, ◌≤ℤ◌, Option, Some, None, ◌⊎◌}
use Rattle.std.proofs.Common.{◌∙◌, ap, refl, sym, subst, arith, inl, inr}
use Rattle.std.proofs.lemmas.Bool.{cases_eq}
use Rattle.std.proofs.lemmas.Int.{ints}
use Rattle.pk_octmat.specs.Bounds.{AtMost, plus, halved}
use Rattle.pk_octmat.specs.Octagon.{bar}
use Rattle.pk_octmat.proofs.Bars.{bar_bar, bar_in}
use Rattle.pk_octmat.proofs.Tropical.{at_most_trans, half_low}
use Rattle.pk_octpoints.specs.Tight.{IsTight}
use Rattle.pk_octpoints.specs.Parts.{MeetsThere, bound_by, nearest, opposite, part_side, signed, with_part, with_nearest}
use Rattle.pk_octpoints.proofs.Parts.{part_here, part_other, part_side_bar}
use Rattle.pk_octpoints.proofs.Room.{IsUpper, bound_upper, nearest_high, nearest_low, room}

pub some_one : (a b : ℤ) → Some a ≡ Some b → a ≡ b
some_one a b h = cc

less : (v u : ℤ) (b : Option ℤ) → AtMost (Some v) (plus (Some u) b) → AtMost (Some (v -ℤ u)) b
less v u None h = tt
less v u (Some b) h = omega (arith, ints, h)

own_twice : (z t : ℤ) (b : Option ℤ) → t ≡ neg_ℤ z → AtMost (Some z) (halved b) → AtMost (Some (z -ℤ t)) b
own_twice z t None e h = tt
own_twice z t (Some b) e h = omega (arith, ints, e, h, half_low b)

no_change : (z : ℤ) (b : Option ℤ) → b ≡ Some (pos 0) → AtMost (Some (z -ℤ z)) b
no_change z b e = rw e (at z)
  where
    at : (z : ℤ) → (z -ℤ z) ≤ℤ pos 0
    at z = omega (arith, ints)

turned_back : (v w : ℤ) → (neg_ℤ v -ℤ neg_ℤ w) ≡ (w -ℤ v)
turned_back v w = omega (arith, ints)

turned_other : (v w : ℤ) → (v -ℤ neg_ℤ w) ≡ (w -ℤ neg_ℤ v)
turned_other v w = omega (arith, ints)

-- where a place lies
abbrev Lies : ℕ → ℕ → Type 0
Lies p i = (i ≡ p) ⊎ ((i ≡ bar p) ⊎ (i / 2 ≢ p / 2))

lies : (p i : ℕ) → Lies p i
lies p i = by (cases_eq i p) (cases_eq i (bar p))
  where
    by : (i ≡ p) ⊎ (i ≢ p) → (i ≡ bar p) ⊎ (i ≢ bar p) → Lies p i
    by (inl s) q = inl s
    by (inr n) (inl s) = inr (inl s)
    by (inr n) (inr m) = inr (inr (omega arith))

pub placed : (n : ℕ) (e : ℕ → ℕ → Option ℤ) (x : ℕ → Option ℤ) → IsTight n e → MeetsThere (2 * n) e x → (p : ℕ) → p < 2 * n → (high low : Option ℤ) → IsUpper (2 * n) e x p high → IsUpper (2 * n) e x (bar p) low
    → (v : ℤ) → AtMost (Some v) high → AtMost (Some (neg_ℤ v)) low → MeetsThere (2 * n) e (with_part x (p / 2) (signed p v))
placed n e x t m p pd high low a b v h l = record { each = λ i j id jd u w f g. each i j id jd u w f g (lies p i) (lies p j) }
  where
    y : ℕ → Option ℤ
    y = with_part x (p / 2) (signed p v)

    bp : bar p < 2 * n
    bp = bar_in n p pd

    here : part_side y p ≡ Some v
    here = part_here x p v

    there : part_side y (bar p) ≡ Some (neg_ℤ v)
    there = part_side_bar y p ∙ ap opposite here

    is_here : (i : ℕ) (u : ℤ) → i ≡ p → part_side y i ≡ Some u → v ≡ u
    is_here i u s f = some_one v u (sym here ∙ subst (λ q. part_side y q ≡ Some u) s f)

    is_there : (i : ℕ) (u : ℤ) → i ≡ bar p → part_side y i ≡ Some u → neg_ℤ v ≡ u
    is_there i u s f = some_one (neg_ℤ v) u (sym there ∙ subst (λ q. part_side y q ≡ Some u) s f)

    old : (i : ℕ) (u : ℤ) → i / 2 ≢ p / 2 → part_side y i ≡ Some u → part_side x i ≡ Some u
    old i u s f = sym (part_other x (p / 2) i (signed p v) s) ∙ f

    to_here : (i : ℕ) (u : ℤ) → i < 2 * n → part_side x i ≡ Some u → AtMost (Some (v -ℤ u)) (e i p)
    to_here i u id f = less v u (e i p) (subst (λ o. AtMost (Some v) (plus o (e i p))) f (at_most_trans (Some v) high (plus (part_side x i) (e i p)) h (a.each i id)))

    to_there : (i : ℕ) (u : ℤ) → i < 2 * n → part_side x i ≡ Some u → AtMost (Some (neg_ℤ v -ℤ u)) (e i (bar p))
    to_there i u id f = less (neg_ℤ v) u (e i (bar p)) (subst (λ o. AtMost (Some (neg_ℤ v)) (plus o (e i (bar p)))) f (at_most_trans (Some (neg_ℤ v)) low (plus (part_side x i) (e i (bar p))) l (b.each i id)))

    bar_old : (j : ℕ) (w : ℤ) → part_side x j ≡ Some w → part_side x (bar j) ≡ Some (neg_ℤ w)
    bar_old j w f = part_side_bar x j ∙ ap opposite f

    each : (i j : ℕ) → i < 2 * n → j < 2 * n → (u w : ℤ) → part_side y i ≡ Some u → part_side y j ≡ Some w → Lies p i → Lies p j → AtMost (Some (w -ℤ u)) (e i j)
    each i j id jd u w f g (inl s) (inl r) =
        subst (λ k. AtMost (Some (w -ℤ k)) (e i j)) (is_here i u s f) (subst (λ k. AtMost (Some (k -ℤ v)) (e i j)) (is_here j w r g)
        (no_change v (e i j) (subst (λ k. e i k ≡ Some (pos 0)) (s ∙ sym r) (t.zero i id))))
    each i j id jd u w f g (inl s) (inr (inl r)) =
        subst (λ k. AtMost (Some (w -ℤ k)) (e i j)) (is_here i u s f) (subst (λ k. AtMost (Some (k -ℤ v)) (e i j)) (is_there j w r g)
        (subst (λ k. AtMost (Some (neg_ℤ v -ℤ v)) (e k j)) (sym s) (subst (λ k. AtMost (Some (neg_ℤ v -ℤ v)) (e p k)) (sym r)
        (own_twice (neg_ℤ v) v (e p (bar p)) (omega (arith, ints)) (at_most_trans (Some (neg_ℤ v)) low (halved (e p (bar p))) l (subst (λ k. AtMost low (halved (e k (bar p)))) (bar_bar p) b.own))))))
    each i j id jd u w f g (inl s) (inr (inr r)) =
        let bj = bar_in n j jd in
        let far : AtMost (Some (neg_ℤ v -ℤ neg_ℤ w)) (e (bar j) (bar p)) = to_there (bar j) (neg_ℤ w) bj (bar_old j w (old j w r g)) in
        let back : e (bar j) (bar p) ≡ e i j = sym (ap (λ k. e k j) s ∙ t.turned p j pd jd) in
        subst (λ k. AtMost (Some (w -ℤ k)) (e i j)) (is_here i u s f) (subst (λ z. AtMost (Some z) (e i j)) (turned_back v w) (subst (λ o. AtMost (Some (neg_ℤ v -ℤ neg_ℤ w)) o) back far))
    each i j id jd u w f g (inr (inl s)) (inl r) =
        subst (λ k. AtMost (Some (w -ℤ k)) (e i j)) (is_there i u s f) (subst (λ k. AtMost (Some (k -ℤ neg_ℤ v)) (e i j)) (is_here j w r g)
        (subst (λ k. AtMost (Some (v -ℤ neg_ℤ v)) (e k j)) (sym s) (subst (λ k. AtMost (Some (v -ℤ neg_ℤ v)) (e (bar p) k)) (sym r)
        (own_twice v (neg_ℤ v) (e (bar p) p) refl (at_most_trans (Some v) high (halved (e (bar p) p)) h a.own)))))
    each i j id jd u w f g (inr (inl s)) (inr (inl r)) =
        subst (λ k. AtMost (Some (w -ℤ k)) (e i j)) (is_there i u s f) (subst (λ k. AtMost (Some (k -ℤ neg_ℤ v)) (e i j)) (is_there j w r g)
        (no_change (neg_ℤ v) (e i j) (subst (λ k. e i k ≡ Some (pos 0)) (s ∙ sym r) (t.zero i id))))
    each i j id jd u w f g (inr (inl s)) (inr (inr r)) =
        let bj = bar_in n j jd in
        let far : AtMost (Some (v -ℤ neg_ℤ w)) (e (bar j) p) = to_here (bar j) (neg_ℤ w) bj (bar_old j w (old j w r g)) in
        let back : e (bar j) p ≡ e i j = sym (ap (λ k. e k j) s ∙ t.turned (bar p) j bp jd ∙ ap (λ k. e (bar j) k) (bar_bar p)) in
        subst (λ k. AtMost (Some (w -ℤ k)) (e i j)) (is_there i u s f) (subst (λ z. AtMost (Some z) (e i j)) (turned_other v w) (subst (λ o. AtMost (Some (v -ℤ neg_ℤ w)) o) back far))
    each i j id jd u w f g (inr (inr s)) (inl r) =
        subst (λ k. AtMost (Some (k -ℤ u)) (e i j)) (is_here j w r g) (subst (λ k. AtMost (Some (v -ℤ u)) (e i k)) (sym r) (to_here i u id (old i u s f)))
    each i j id jd u w f g (inr (inr s)) (inr (inl r)) =
        subst (λ k. AtMost (Some (k -ℤ u)) (e i j)) (is_there j w r g) (subst (λ k. AtMost (Some (neg_ℤ v -ℤ u)) (e i k)) (sym r) (to_there i u id (old i u s f)))
    each i j id jd u w f g (inr (inr s)) (inr (inr r)) = m.each i j id jd u w (old i u s f) (old j w r g)

-- the nearest number to a wish
pub placed_nearest : (n : ℕ) (e : ℕ → ℕ → Option ℤ) (x : ℕ → Option ℤ) → IsTight n e → MeetsThere (2 * n) e x → (p : ℕ) (w : ℤ) → p < 2 * n → MeetsThere (2 * n) e (with_nearest (2 * n) e x p w)
placed_nearest n e x t m p w pd =
    let high = bound_by e x p (2 * n) in
    let low = bound_by e x (bar p) (2 * n) in
    let a = bound_upper (2 * n) e x p in
    let b = bound_upper (2 * n) e x (bar p) in
    placed n e x t m p pd high low a b (nearest w high low) (nearest_high w high low) (nearest_low w high low (room n e x t m p pd high low a b))
