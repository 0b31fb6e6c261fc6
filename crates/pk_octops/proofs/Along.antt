-- A constant added along a variable, with or without an exchange, and a variable bound to another.
use Rattle.std.specs.Prelude.{◌≡◌, ◌≢◌, ℕ, ◌<◌, ◌+◌, ◌-◌, ◌*◌, ◌/◌, ◌%◌, ◌^◌, ◌==◌, ◌&&◌, ◌||◌, ℤ, pos, negsuc, neg_ℤ, ◌+ℤ◌, ◌-ℤ◌, ◌≤ℤ◌, int_lt, Option, Some, None, Bool, true, false, if◌then◌else◌, ◌⊎◌, List, length}
use Rattle.std.proofs.Common.{◌∙◌, ap, refl, sym, subst, arith, inl, inr}
use Rattle.std.proofs.lemmas.Bool.Decides.{nat_tests}
use Rattle.std.proofs.Common.{rules}
use Rattle.std.specs.Int.{w128}
use Rattle.std.specs.Int.RustNames.{FitsSigned}
use Rattle.std.specs.Option.{SomeIff}
use Rattle.std.proofs.lemmas.Int.{ints}
use Rattle.pk_octmat.specs.Bounds.{AtMost, IsNear, capped, lesser, plus}
use Rattle.pk_octmat.specs.Half.{block, kept_at, IsHalf}
use Rattle.pk_octmat.proofs.Half.{half_from}
use Rattle.pk_octmat.specs.Octagon.{HasEntries, Meets, Octagon, bar, entry, forgotten, side, with_number, written}
use Rattle.pk_octmat.proofs.Bars.{pairs_of, side_bar}
use Rattle.pk_octmat.proofs.Points.{at_most_capped, capped_le, capped_most, capped_near, capped_same, forgotten_holds, side_first, side_other, side_second, written_holds}
use Rattle.pk_octmat.proofs.Tropical.{at_most_both, at_most_trans, lesser_above, lesser_left, lesser_one, lesser_right}
use Rattle.pk_octops.specs.Guards.{lowered}
use Rattle.pk_octops.specs.Assigns.{Gives, assigned, bound_to, gain, moved, source}
use Rattle.pk_octops.proofs.Sound.{meets_from}

-- ---- places
pub source_inside : (n k t i : ℕ) → i < 2 * n → source k t i < 2 * n
source_inside n k t i h = by ((i / 2) == k) ((t % 2) == 0)
  where
    by : (p q : Bool) → (if p then (if q then i else bar i) else i) < 2 * n
    by true true = h
    by true false = omega arith
    by false q = h

source_bar : (k t i : ℕ) → bar (source k t i) ≡ source k t (bar i)
source_bar k t i = let same : bar i / 2 ≡ i / 2 = omega arith in rw same (by ((i / 2) == k) ((t % 2) == 0))
  where
    by : (p q : Bool) → bar (if p then (if q then i else bar i) else i) ≡ (if p then (if q then bar i else bar (bar i)) else bar i)
    by true true = refl
    by true false = refl
    by false q = refl

neg_neg : (z : ℤ) → z ≡ neg_ℤ (neg_ℤ z)
neg_neg z = omega (arith, ints)

neg_zero : pos 0 ≡ neg_ℤ (pos 0)
neg_zero = omega (arith, ints)

pub gain_bar : (k : ℕ) (c : ℤ) (i : ℕ) → gain k c (bar i) ≡ neg_ℤ (gain k c i)
gain_bar k c i = by (i == (2 * k)) refl (i == (2 * k + 1)) refl
  where
    by : (p : Bool) → (i == (2 * k)) ≡ p → (q : Bool) → (i == (2 * k + 1)) ≡ q → gain k c (bar i) ≡ neg_ℤ (if p then c else (if q then neg_ℤ c else pos 0))
    by true e q f =
        let s : i ≡ 2 * k = grind (arith, nat_tests) in
        let no : (bar i == (2 * k)) ≡ false = grind (arith, nat_tests) in
        let yes : (bar i == (2 * k + 1)) ≡ true = grind (arith, nat_tests) in
        rw no (rw yes refl)
    by false e true f =
        let s : i ≡ 2 * k + 1 = grind (arith, nat_tests) in
        let yes : (bar i == (2 * k)) ≡ true = grind (arith, nat_tests) in
        rw yes (neg_neg c)
    by false e false f =
        let m : i ≢ 2 * k = grind (arith, nat_tests) in
        let n : i ≢ 2 * k + 1 = grind (arith, nat_tests) in
        let no : (bar i == (2 * k)) ≡ false = grind (arith, nat_tests) in
        let nor : (bar i == (2 * k + 1)) ≡ false = grind (arith, nat_tests) in
        rw no (rw nor neg_zero)

-- ---- the moved bounds make a matrix
no_change : (a : ℤ) → (a -ℤ a) ≡ pos 0
no_change a = omega (arith, ints)

neg_both : (a b : ℤ) → (b -ℤ a) ≡ (neg_ℤ a -ℤ neg_ℤ b)
neg_both a b = omega (arith, ints)

pub moved_zero : (d n k t : ℕ) (c : ℤ) (e : ℕ → ℕ → Option ℤ) → d ≡ 2 * n → ((i : ℕ) → i < d → e i i ≡ Some (pos 0)) → (i : ℕ) → i < d → moved e k t c i i ≡ Some (pos 0)
unfolding moved
moved_zero d n k t c e pairs zero i id =
    let inside : source k t i < d = subst (λ q. source k t i < q) (sym pairs) (source_inside n k t i (omega (arith, pairs))) in
    rw (zero (source k t i) inside) (rw (no_change (gain k c i)) refl)

pub moved_turned : (k t : ℕ) (c : ℤ) (e : ℕ → ℕ → Option ℤ) → ((i j : ℕ) → e i j ≡ e (bar j) (bar i)) → (i j : ℕ) → moved e k t c i j ≡ moved e k t c (bar j) (bar i)
unfolding moved
moved_turned k t c e turned i j =
    let first : e (source k t i) (source k t j) ≡ e (source k t (bar j)) (source k t (bar i)) =
    turned (source k t i) (source k t j) ∙ ap (λ q. e q (bar (source k t i))) (source_bar k t j) ∙ ap (λ q. e (source k t (bar j)) q) (source_bar k t i) in
    let second : (gain k c j -ℤ gain k c i) ≡ (gain k c (bar i) -ℤ gain k c (bar j)) =
    neg_both (gain k c i) (gain k c j) ∙ ap (λ z. z -ℤ neg_ℤ (gain k c j)) (sym (gain_bar k c i)) ∙ ap (λ z. gain k c (bar i) -ℤ z) (sym (gain_bar k c j)) in
    ap (λ b. capped (plus b (Some (gain k c j -ℤ gain k c i)))) first ∙ ap (λ (z : ℤ). capped (plus (e (source k t (bar j)) (source k t (bar i))) (Some z))) second

pub moved_half : (d k t : ℕ) (c : ℤ) (xs news : List (Option ℤ)) → d % 2 ≡ 0 → IsHalf d xs → length news ≡ block (d / 2) → ((i j : ℕ) → i < d → j < d → kept_at d news i j ≡ moved (kept_at d xs) k t c i j) → IsHalf d news
unfolding moved
moved_half d k t c xs news pairs m size is =
    half_from d news pairs size
    (λ i id. is i i id id ∙ moved_zero d (d / 2) k t c (kept_at d xs) (pairs_of d pairs) m.whole.coherent.zero i id)
    (λ i j id jd. rw (is i j id jd) (capped_near (plus (kept_at d xs (source k t i) (source k t j)) (Some (gain k c j -ℤ gain k c i)))))

-- ---- a constant far from 0 may be brought near
far_above : (b : Option ℤ) (y : ℤ) → IsNear (2 ^ 66) b → pos (2 ^ 68) ≤ℤ y → capped (plus b (Some y)) ≡ None
far_above None y n h = refl
far_above (Some z) y n h = let high : int_lt (pos (2 ^ 66)) (z +ℤ y) ≡ true = grind (arith, ints) in rw high refl

low_cap : Option ℤ → Option ℤ
low_cap None = None
low_cap (Some z) = Some (negsuc (2 ^ 66 - 1))

far_below : (b : Option ℤ) (y : ℤ) → IsNear (2 ^ 66) b → y ≤ℤ negsuc (2 ^ 68 - 1) → capped (plus b (Some y)) ≡ low_cap b
unfolding low_cap
far_below None y n h = refl
far_below (Some z) y n h =
    let high : int_lt (pos (2 ^ 66)) (z +ℤ y) ≡ false = grind (arith, ints) in
    let low : int_lt (z +ℤ y) (negsuc (2 ^ 66 - 1)) ≡ true = grind (arith, ints) in
    rw high (rw low refl)

-- two gains on the same side, each as far as 2^68
abbrev AreFar : ℤ → ℤ → Type 0
AreFar y z = ((pos (2 ^ 68) ≤ℤ y) × (pos (2 ^ 68) ≤ℤ z)) ⊎ ((y ≤ℤ negsuc (2 ^ 68 - 1)) × (z ≤ℤ negsuc (2 ^ 68 - 1)))

far_same : (b : Option ℤ) (y z : ℤ) → IsNear (2 ^ 66) b → (y ≡ z) ⊎ AreFar y z → capped (plus b (Some y)) ≡ capped (plus b (Some z))
far_same b y z n (inl s) = ap (λ (q : ℤ). capped (plus b (Some q))) s
far_same b y z n (inr (inl w)) = far_above b y n w.0 ∙ sym (far_above b z n w.1)
far_same b y z n (inr (inr w)) = far_below b y n w.0 ∙ sym (far_below b z n w.1)

-- what two places gain, by whether each is that of x_k or of its negative
abbrev gain_by : Bool → Bool → ℤ → ℤ
gain_by p q c = if p then c else (if q then neg_ℤ c else pos 0)

gains_above : (p q r s : Bool) (c f : ℤ) → pos (2 ^ 68) ≤ℤ c → pos (2 ^ 68) ≤ℤ f → ((gain_by p q c -ℤ gain_by r s c) ≡ (gain_by p q f -ℤ gain_by r s f)) ⊎ AreFar (gain_by p q c -ℤ gain_by r s c) (gain_by p q f -ℤ gain_by r s f)
gains_above true q true s c f h g = inl (omega (arith, ints))
gains_above true q false true c f h g = inr (inl (omega (arith, ints), omega (arith, ints)))
gains_above true q false false c f h g = inr (inl (omega (arith, ints), omega (arith, ints)))
gains_above false true true s c f h g = inr (inr (omega (arith, ints), omega (arith, ints)))
gains_above false true false true c f h g = inl (omega (arith, ints))
gains_above false true false false c f h g = inr (inr (omega (arith, ints), omega (arith, ints)))
gains_above false false true s c f h g = inr (inr (omega (arith, ints), omega (arith, ints)))
gains_above false false false true c f h g = inr (inl (omega (arith, ints), omega (arith, ints)))
gains_above false false false false c f h g = inl refl

gains_below : (p q r s : Bool) (c f : ℤ) → c ≤ℤ negsuc (2 ^ 68 - 1) → f ≤ℤ negsuc (2 ^ 68 - 1) → ((gain_by p q c -ℤ gain_by r s c) ≡ (gain_by p q f -ℤ gain_by r s f)) ⊎ AreFar (gain_by p q c -ℤ gain_by r s c) (gain_by p q f -ℤ gain_by r s f)
gains_below true q true s c f h g = inl (omega (arith, ints))
gains_below true q false true c f h g = inr (inr (omega (arith, ints), omega (arith, ints)))
gains_below true q false false c f h g = inr (inr (omega (arith, ints), omega (arith, ints)))
gains_below false true true s c f h g = inr (inl (omega (arith, ints), omega (arith, ints)))
gains_below false true false true c f h g = inl (omega (arith, ints))
gains_below false true false false c f h g = inr (inl (omega (arith, ints), omega (arith, ints)))
gains_below false false true s c f h g = inr (inl (omega (arith, ints), omega (arith, ints)))
gains_below false false false true c f h g = inr (inr (omega (arith, ints), omega (arith, ints)))
gains_below false false false false c f h g = inl refl

-- f is c, or both are far above or far below 0
abbrev pub StandsFor : ℤ → ℤ → Type 0
StandsFor f c = (f ≡ c) ⊎ AreFar f c

pub stands_from : (f c : ℤ) → (negsuc (2 ^ 68 - 1) ≤ℤ c → c ≤ℤ pos (2 ^ 68) → f ≡ c) → (pos (2 ^ 68) ≤ℤ c → f ≡ pos (2 ^ 68)) → (c ≤ℤ negsuc (2 ^ 68 - 1) → f ≡ negsuc (2 ^ 68 - 1)) → StandsFor f c
stands_from f c near above below = by (int_lt (pos (2 ^ 68)) c) refl (int_lt c (negsuc (2 ^ 68 - 1))) refl
  where
    by : (s : Bool) → int_lt (pos (2 ^ 68)) c ≡ s → (t : Bool) → int_lt c (negsuc (2 ^ 68 - 1)) ≡ t → StandsFor f c
    by true e t g = let high : pos (2 ^ 68) ≤ℤ c = omega (arith, ints) in let is = above high in inr (inl (rw is (omega (arith, ints)), high))
    by false e true g = let low : c ≤ℤ negsuc (2 ^ 68 - 1) = omega (arith, ints) in let is = below low in inr (inr (rw is (omega (arith, ints)), low))
    by false e false g = inl (near (omega (arith, ints)) (omega (arith, ints)))

pub near_wider : (b : Option ℤ) → IsNear (2 ^ 66) b → IsNear (2 ^ 100) b
near_wider None n = tt
near_wider (Some z) n = (omega (arith, ints, n.0), omega (arith, ints, n.1))

-- a place that is read, and the number there
pub source_in : (d n k t i s : ℕ) → d ≡ 2 * n → i < d → s ≡ source k t i → s < d
source_in d n k t i s pairs id is = rw is (subst (λ q. source k t i < q) (sym pairs) (source_inside n k t i (omega (arith, pairs))))

pub source_read : (k t i j s u : ℕ) (e : ℕ → ℕ → Option ℤ) (b : Option ℤ) → s ≡ source k t i → u ≡ source k t j → b ≡ e s u → b ≡ e (source k t i) (source k t j)
source_read k t i j s u e b p q r = rw (← p) (rw (← q) r)

pub moved_is : (e : ℕ → ℕ → Option ℤ) (k t : ℕ) (c : ℤ) (i j : ℕ) (b x : Option ℤ) → b ≡ e (source k t i) (source k t j) → x ≡ capped (plus b (Some (gain k c j -ℤ gain k c i))) → x ≡ moved e k t c i j
unfolding moved
moved_is e k t c i j b x r is = is ∙ ap (λ s. capped (plus s (Some (gain k c j -ℤ gain k c i)))) r

pub gained_is : (b : Option ℤ) (k : ℕ) (c f : ℤ) (i j : ℕ) → IsNear (2 ^ 66) b → StandsFor f c → capped (plus b (Some (gain k f j -ℤ gain k f i))) ≡ capped (plus b (Some (gain k c j -ℤ gain k c i)))
gained_is b k c f i j n (inl s) = ap (λ (z : ℤ). capped (plus b (Some (gain k z j -ℤ gain k z i)))) s
gained_is b k c f i j n (inr (inl w)) = far_same b (gain k f j -ℤ gain k f i) (gain k c j -ℤ gain k c i) n (gains_above (j == (2 * k)) (j == (2 * k + 1)) (i == (2 * k)) (i == (2 * k + 1)) f c w.0 w.1)
gained_is b k c f i j n (inr (inr w)) = far_same b (gain k f j -ℤ gain k f i) (gain k c j -ℤ gain k c i) n (gains_below (j == (2 * k)) (j == (2 * k + 1)) (i == (2 * k)) (i == (2 * k + 1)) f c w.0 w.1)

-- ---- the number of a variable and its negative after the assignment
side_gained : (x : ℕ → ℤ) (k t : ℕ) (c v : ℤ) → (t / 2) ≡ k → v ≡ (side x t +ℤ c) → (i : ℕ) → side (with_number x k v) i ≡ (side x (source k t i) +ℤ gain k c i)
side_gained x k t c v tk is i = by ((i / 2) == k) refl (i == (2 * k)) refl (i == (2 * k + 1)) refl ((t % 2) == 0) refl
  where
    plain : (z : ℤ) → z ≡ (z +ℤ pos 0)
    plain z = omega (arith, ints)

    negated : (a b : ℤ) → neg_ℤ (a +ℤ b) ≡ (neg_ℤ a +ℤ neg_ℤ b)
    negated a b = omega (arith, ints)

    by : (h : Bool) → ((i / 2) == k) ≡ h → (p : Bool) → (i == (2 * k)) ≡ p → (q : Bool) → (i == (2 * k + 1)) ≡ q → (r : Bool) → ((t % 2) == 0) ≡ r
        → side (with_number x k v) i ≡ (side x (if h then (if r then i else bar i) else i) +ℤ gain_by p q c)
    by false h true p q qe r re = let s : i ≡ 2 * k = grind (arith, nat_tests) in let n : (i / 2) ≢ k = grind (arith, nat_tests) in absurd (n (omega arith))
    by false h false p true qe r re = let s : i ≡ 2 * k + 1 = grind (arith, nat_tests) in let n : (i / 2) ≢ k = grind (arith, nat_tests) in absurd (n (omega arith))
    by false h false p false qe r re = side_other x k v i h ∙ plain (side x i)
    by true h true p q qe true re =
        let s : i ≡ 2 * k = grind (arith, nat_tests) in
        let even : t % 2 ≡ 0 = grind (arith, nat_tests) in
        let same : t ≡ i = omega (arith, s, even, tk) in
        ap (side (with_number x k v)) s ∙ side_first x k v ∙ is ∙ ap (λ q. side x q +ℤ c) same
    by true h true p q qe false re =
        let s : i ≡ 2 * k = grind (arith, nat_tests) in
        let odd : t % 2 ≢ 0 = grind (arith, nat_tests) in
        let same : t ≡ bar i = omega (arith, s, odd, tk) in
        ap (side (with_number x k v)) s ∙ side_first x k v ∙ is ∙ ap (λ q. side x q +ℤ c) same
    by true h false p true qe true re =
        let s : i ≡ 2 * k + 1 = grind (arith, nat_tests) in
        let even : t % 2 ≡ 0 = grind (arith, nat_tests) in
        let same : bar t ≡ i = omega (arith, s, even, tk) in
        ap (side (with_number x k v)) s ∙ side_second x k v ∙ ap neg_ℤ is ∙ negated (side x t) c ∙ ap (λ z. z +ℤ neg_ℤ c) (sym (side_bar x t)) ∙ ap (λ q. side x q +ℤ neg_ℤ c) same
    by true h false p true qe false re =
        let s : i ≡ 2 * k + 1 = grind (arith, nat_tests) in
        let odd : t % 2 ≢ 0 = grind (arith, nat_tests) in
        let same : bar t ≡ bar i = omega (arith, s, odd, tk) in
        ap (side (with_number x k v)) s ∙ side_second x k v ∙ ap neg_ℤ is ∙ negated (side x t) c ∙ ap (λ z. z +ℤ neg_ℤ c) (sym (side_bar x t)) ∙ ap (λ q. side x q +ℤ neg_ℤ c) same
    by true h false p false qe r re =
        let m : i ≢ 2 * k = grind (arith, nat_tests) in
        let n : i ≢ 2 * k + 1 = grind (arith, nat_tests) in
        let here : i / 2 ≡ k = grind (arith, nat_tests) in
        absurd (omega (arith, m, n, here))

regroup : (a b g h : ℤ) → ((b -ℤ a) +ℤ (h -ℤ g)) ≡ ((b +ℤ h) -ℤ (a +ℤ g))
regroup a b g h = omega (arith, ints)

add_holds : (v w : ℤ) (b : Option ℤ) → AtMost (Some v) b → AtMost (Some (v +ℤ w)) (plus b (Some w))
add_holds v w None h = tt
add_holds v w (Some z) h = omega (arith, ints, h)

moved_holds : (e : ℕ → ℕ → Option ℤ) (k t : ℕ) (c v : ℤ) (x : ℕ → ℤ) → (t / 2) ≡ k → v ≡ (side x t +ℤ c) → Meets e x → (i j : ℕ) → AtMost (Some (side (with_number x k v) j -ℤ side (with_number x k v) i)) (moved e k t c i j)
unfolding moved
moved_holds e k t c v x tk is m i j =
    let a = side x (source k t i) in
    let b = side x (source k t j) in
    let sum : AtMost (Some ((b -ℤ a) +ℤ (gain k c j -ℤ gain k c i))) (plus (e (source k t i) (source k t j)) (Some (gain k c j -ℤ gain k c i))) =
    add_holds (b -ℤ a) (gain k c j -ℤ gain k c i) (e (source k t i) (source k t j)) (m.each (source k t i) (source k t j)) in
    let same : ((b -ℤ a) +ℤ (gain k c j -ℤ gain k c i)) ≡ (side (with_number x k v) j -ℤ side (with_number x k v) i) =
    regroup a b (gain k c i) (gain k c j) ∙ ap (λ z. z -ℤ (a +ℤ gain k c i)) (sym (side_gained x k t c v tk is j)) ∙ ap (λ z. side (with_number x k v) j -ℤ z) (sym (side_gained x k t c v tk is i)) in
    subst (λ (z : ℤ). AtMost (Some z) (moved e k t c i j)) same
    (at_most_trans (Some ((b -ℤ a) +ℤ (gain k c j -ℤ gain k c i))) (plus (e (source k t i) (source k t j)) (Some (gain k c j -ℤ gain k c i))) (moved e k t c i j) sum (at_most_capped (plus (e (source k t i) (source k t j)) (Some (gain k c j -ℤ gain k c i)))))

-- ---- a variable bound to another
difference : (s c : ℤ) → ((s +ℤ c) -ℤ s) ≤ℤ c
difference s c = omega (arith, ints)

difference_back : (s c : ℤ) → (s -ℤ (s +ℤ c)) ≤ℤ neg_ℤ c
difference_back s c = omega (arith, ints)

bound_holds : (e : ℕ → ℕ → Option ℤ) (k t : ℕ) (c v : ℤ) (x : ℕ → ℤ) → ((t / 2) == k) ≡ false → v ≡ (side x t +ℤ c) → Meets e x → (i j : ℕ) → AtMost (Some (side (with_number x k v) j -ℤ side (with_number x k v) i)) (bound_to e k t c i j)
unfolding bound_to
bound_holds e k t c v x other is m i j =
    let y = with_number x k v in
    let at_t : side y t ≡ side x t = side_other x k v t other in
    let at_k : side y (2 * k) ≡ (side x t +ℤ c) = side_first x k v ∙ is in
    let free : Meets (forgotten e k) y = record { each = λ a b. forgotten_holds e k x v m a b } in
    let up : AtMost (Some (side y (2 * k) -ℤ side y t)) (capped (Some c)) = rw at_t (rw at_k (at_most_trans (Some ((side x t +ℤ c) -ℤ side x t)) (Some c) (capped (Some c)) (difference (side x t) c) (at_most_capped (Some c)))) in
    let down : AtMost (Some (side y t -ℤ side y (2 * k))) (capped (Some (neg_ℤ c))) = rw at_t (rw at_k (at_most_trans (Some (side x t -ℤ (side x t +ℤ c))) (Some (neg_ℤ c)) (capped (Some (neg_ℤ c))) (difference_back (side x t) c) (at_most_capped (Some (neg_ℤ c))))) in
    let first : Meets (written (forgotten e k) t (2 * k) (capped (Some c))) y = record { each = λ a b. written_holds (forgotten e k) t (2 * k) (capped (Some c)) y free up a b } in
    written_holds (written (forgotten e k) t (2 * k) (capped (Some c))) (2 * k) t (capped (Some (neg_ℤ c))) y first down i j

pub assign_sound : (n k : ℕ) (t : Option ℕ) (c : ℤ) (m r : Octagon) → HasEntries n (assigned (entry m) k t c) r → (x : ℕ → ℤ) (v : ℤ) → Gives x t c v → Meets (entry m) x → Meets (entry r) (with_number x k v)
assign_sound n k None c m r h x v g p = meets_from n (assigned (entry m) k None c) r (with_number x k v) h (λ i j id jd. forgotten_holds (entry m) k x v p i j)
assign_sound n k (Some t) c m r h x v g p = meets_from n (assigned (entry m) k (Some t) c) r (with_number x k v) h (λ i j id jd. by i j ((t / 2) == k) refl)
  where
    by : (i j : ℕ) (s : Bool) → ((t / 2) == k) ≡ s → AtMost (Some (side (with_number x k v) j -ℤ side (with_number x k v) i)) (if s then moved (entry m) k t c i j else bound_to (entry m) k t c i j)
    by i j true e = let same : t / 2 ≡ k = grind (arith, nat_tests) in moved_holds (entry m) k t c v x same g p i j
    by i j false e = bound_holds (entry m) k t c v x e g p i j

-- ---- a cap of the lesser of two bounds
pub capped_lesser : (b c : Option ℤ) → IsNear (2 ^ 66) b → capped (lesser b c) ≡ lesser b (capped c)
capped_lesser b c n =
    at_most_both (capped (lesser b c)) (lesser b (capped c))
    (lesser_above b (capped c) (capped (lesser b c)) (capped_most (lesser b c) b (lesser_left b c) n) (capped_le (lesser b c) c (lesser_right b c)))
    (by (lesser_one b c))
  where
    by : (lesser b c ≡ b) ⊎ (lesser b c ≡ c) → AtMost (lesser b (capped c)) (capped (lesser b c))
    by (inl e) = rw e (rw (capped_same b n) (lesser_left b (capped c)))
    by (inr e) = rw e (lesser_right b (capped c))

-- ---- what two writes give
pub written_same : (e f : ℕ → ℕ → Option ℤ) (i j : ℕ) (b : Option ℤ) (a c : ℕ) → e a c ≡ f a c → written e i j b a c ≡ written f i j b a c
written_same e f i j b a c s = by (((a == i) && (c == j)) || ((a == bar j) && (c == bar i)))
  where
    by : (t : Bool) → (if t then b else e a c) ≡ (if t then b else f a c)
    by true = refl
    by false = s

pub bound_is : (e f g h : ℕ → ℕ → Option ℤ) (k t : ℕ) (c : ℤ) (p q : Option ℤ) (i j : ℕ) → p ≡ capped (Some c) → q ≡ capped (Some (neg_ℤ c))
    → f i j ≡ forgotten e k i j → g i j ≡ written f t (2 * k) p i j → h i j ≡ written g (2 * k) t q i j → h i j ≡ bound_to e k t c i j
unfolding bound_to
bound_is e f g h k t c p q i j pc qc first second third =
    third ∙ ap (λ s. written g (2 * k) t s i j) qc
    ∙ written_same g (written (forgotten e k) t (2 * k) (capped (Some c))) (2 * k) t (capped (Some (neg_ℤ c))) i j
    (second ∙ ap (λ s. written f t (2 * k) s i j) pc ∙ written_same f (forgotten e k) t (2 * k) (capped (Some c)) i j first)

-- the negative of a number of 128 bits, where it is one
pub negated_cap : (r : Option ℤ) (c : ℤ) → FitsSigned w128 c → SomeIff r (FitsSigned w128 (neg_ℤ c)) (neg_ℤ c) → capped r ≡ capped (Some (neg_ℤ c))
negated_cap (Some x) c f h = ap (λ (z : ℤ). capped (Some z)) h.1
negated_cap None c f h = by (int_lt (pos (2 ^ 66)) (neg_ℤ c)) refl
  where
    by : (t : Bool) → int_lt (pos (2 ^ 66)) (neg_ℤ c) ≡ t → None ≡ capped (Some (neg_ℤ c))
    by true e = rw e refl
    by false e = let fits : FitsSigned w128 (neg_ℤ c) = search (rules, ints) in absurd (h fits)

-- ---- guards
twice_is : (a c : ℤ) → a ≤ℤ c → (a -ℤ neg_ℤ a) ≤ℤ (c +ℤ c)
twice_is a c h = omega (arith, ints, h)

sum_is : (a b : ℤ) → (a -ℤ neg_ℤ b) ≡ (a +ℤ b)
sum_is a b = omega (arith, ints)

pub one_term : (x : ℕ → ℤ) (a k : ℕ) (c : ℤ) → k ≡ bar a → side x a ≤ℤ c → AtMost (Some (side x a -ℤ side x k)) (capped (Some (c +ℤ c)))
one_term x a k c e h =
    at_most_trans (Some (side x a -ℤ side x k)) (Some (c +ℤ c)) (capped (Some (c +ℤ c)))
    (subst (λ z. (side x a -ℤ z) ≤ℤ (c +ℤ c)) (sym (ap (side x) e ∙ side_bar x a)) (twice_is (side x a) c h)) (at_most_capped (Some (c +ℤ c)))

pub two_terms : (x : ℕ → ℤ) (a b k : ℕ) (c : ℤ) → k ≡ bar b → (side x a +ℤ side x b) ≤ℤ c → AtMost (Some (side x a -ℤ side x k)) (capped (Some c))
two_terms x a b k c e h =
    let same : (side x a -ℤ side x k) ≡ (side x a +ℤ side x b) = ap (λ q. side x a -ℤ side x q) e ∙ ap (λ z. side x a -ℤ z) (side_bar x b) ∙ sum_is (side x a) (side x b) in
    at_most_trans (Some (side x a -ℤ side x k)) (Some c) (capped (Some c)) (subst (λ z. z ≤ℤ c) (sym same) h) (at_most_capped (Some c))

pub lowered_is : (e : ℕ → ℕ → Option ℤ) (i j : ℕ) (c : ℤ) (held number : Option ℤ) → held ≡ e i j → IsNear (2 ^ 66) held → number ≡ capped (Some c) → IsNear (2 ^ 66) number → capped (lesser held number) ≡ lesser (e i j) (capped (Some c))
lowered_is e i j c held number h n s near = capped_lesser held number n ∙ ap (λ b. lesser b (capped number)) h ∙ ap (λ b. lesser (e i j) b) (capped_same number near ∙ s)

pub lowered_holds : (e : ℕ → ℕ → Option ℤ) (i j : ℕ) (c : ℤ) (x : ℕ → ℤ) → Meets e x → AtMost (Some (side x j -ℤ side x i)) (capped (Some c)) → (a b : ℕ) → AtMost (Some (side x b -ℤ side x a)) (lowered e i j c a b)
lowered_holds e i j c x m h a b = written_holds e i j (lesser (e i j) (capped (Some c))) x m (lesser_above (e i j) (capped (Some c)) (Some (side x j -ℤ side x i)) (m.each i j) h) a b
