-- The tightened least sums obey the triangle inequality, so closing them again changes nothing.
use Rattle.std.specs.Prelude.{◌≡◌, ◌≢◌, ℕ, ◌<◌, ℤ, pos, ◌+ℤ◌, Option, Some, None, ◌⊎◌, ◌∷◌, ◌++◌}
use Rattle.std.specs.Int.{int_div_euclid}
use Rattle.std.proofs.Common.{◌∙◌, ap, refl, sym, subst, arith, inl, inr}
use Rattle.std.proofs.lemmas.Bool.{cases_eq}
use Rattle.std.proofs.lemmas.Int.{ints}
use Rattle.pk_octclose.proofs.Closed.{evened_turned}
use Rattle.pk_octclose.proofs.Halves.{evened_here, evened_other, half_double, tight_row}
use Rattle.pk_octclose.proofs.Members.{evened_most}
use Rattle.pk_octclose.proofs.Walks.{walk_append}
use Rattle.pk_octclose.specs.Closing.{evened, there_and_back, tight}
use Rattle.pk_octclose.specs.Walks.{HasLeastSums, walk_sum}
use Rattle.pk_octmat.proofs.Bars.{bar_bar}
use Rattle.pk_octmat.proofs.Tropical.{at_most_none, at_most_same, at_most_trans, lesser_left, lesser_one, lesser_right, plus_assoc, plus_comm, plus_le, plus_more, half_high, half_low}
use Rattle.pk_octmat.specs.Bounds.{AtMost, even_down, halved, lesser, plus}
use Rattle.pk_octmat.specs.Octagon.{bar}

-- what is known of least sums of a coherent matrix whose bounds on one number don't exclude each other
pub record IsSums (d : ℕ) (p : ℕ → ℕ → Option ℤ) : Type 0 where
  pub triangle : (i k j : ℕ) → i < d → k < d → j < d → AtMost (p i j) (plus (p i k) (p k j))
  pub turned : (i j : ℕ) → i < d → j < d → p i j ≡ p (bar j) (bar i)
  pub halves : (i : ℕ) → i < d → AtMost (Some (pos 0)) (there_and_back (evened p) i)
  pub inside : (i : ℕ) → i < d → bar i < d

pub sums_triangle : (d : ℕ) (e p : ℕ → ℕ → Option ℤ) → HasLeastSums d e p → (i k j : ℕ) → i < d → k < d → j < d → AtMost (p i j) (plus (p i k) (p k j))
sums_triangle d e p h i k j id kd jd =
    let l = h.each i k id kd in
    let m = h.each k j kd jd in
    let both : walk_sum e i (l.by ++ k ∷ m.by) j ≡ plus (p i k) (p k j) = walk_append e l.by m.by i k j ∙ ap (λ s. plus s (walk_sum e k m.by j)) l.reached ∙ ap (λ s. plus (p i k) s) m.reached in
    let n = h.each i j id jd in
    subst (λ s. AtMost (p i j) s) both (n.least (l.by ++ k ∷ m.by))

-- half of the bound from a place to its negative
abbrev half_at : (ℕ → ℕ → Option ℤ) → ℕ → Option ℤ
half_at p i = halved (p i (bar i))

even_half : (b : Option ℤ) → even_down b ≡ plus (halved b) (halved b)
even_half None = refl
even_half (Some z) = refl

halved_even : (a b : Option ℤ) → halved (plus (even_down a) (even_down b)) ≡ plus (halved a) (halved b)
halved_even None b = refl
halved_even (Some a) None = refl
halved_even (Some a) (Some b) = ap (λ (z : ℤ). Some z) (by (int_div_euclid a (pos 2)) (int_div_euclid b (pos 2)))
  where
    by : (x y : ℤ) → int_div_euclid ((x +ℤ x) +ℤ (y +ℤ y)) (pos 2) ≡ x +ℤ y
    by x y = omega (arith, ints, half_low ((x +ℤ x) +ℤ (y +ℤ y)), half_high ((x +ℤ x) +ℤ (y +ℤ y)))

halved_le : (a x b : Option ℤ) → AtMost a (plus x (plus b x)) → AtMost (halved a) (plus x (halved b))
halved_le a None b h = at_most_none (halved a)
halved_le a (Some x) None h = at_most_none (halved a)
halved_le None (Some x) (Some b) h = absurd h
halved_le (Some a) (Some x) (Some b) h = omega (arith, ints, h, half_low a, half_high b)

-- the tight bound as a lesser of two
tight_is : (p : ℕ → ℕ → Option ℤ) (i j : ℕ) → tight (evened p) i j ≡ lesser (evened p i j) (plus (half_at p i) (half_at p (bar j)))
tight_is p i j =
    let column : evened p (bar j) j ≡ even_down (p (bar j) (bar (bar j))) = ap (λ k. evened p (bar j) k) (sym (bar_bar j)) ∙ evened_here p (bar j) in
    ap (λ s. lesser (evened p i j) (halved (plus s (evened p (bar j) j)))) (evened_here p i) ∙ ap (λ s. lesser (evened p i j) (halved (plus (even_down (p i (bar i))) s))) column
    ∙ ap (λ s. lesser (evened p i j) s) (halved_even (p i (bar i)) (p (bar j) (bar (bar j))))

there_half : (p : ℕ → ℕ → Option ℤ) (i : ℕ) → AtMost (Some (pos 0)) (there_and_back (evened p) i) → AtMost (Some (pos 0)) (plus (half_at p i) (half_at p (bar i)))
there_half p i h = both (p i (bar i)) (p (bar i) (bar (bar i))) (subst (λ s. AtMost (Some (pos 0)) s) (ap (λ s. plus s (evened p (bar i) i)) (evened_here p i) ∙ ap (λ s. plus (even_down (p i (bar i))) s) back) h)
  where
    back : evened p (bar i) i ≡ even_down (p (bar i) (bar (bar i)))
    back = ap (λ k. evened p (bar i) k) (sym (bar_bar i)) ∙ evened_here p (bar i)

    both : (a b : Option ℤ) → AtMost (Some (pos 0)) (plus (even_down a) (even_down b)) → AtMost (Some (pos 0)) (plus (halved a) (halved b))
    both None b q = tt
    both (Some a) None q = tt
    both (Some a) (Some b) q = omega (arith, ints, q)

-- from a place over another one
half_over : (d : ℕ) (p : ℕ → ℕ → Option ℤ) → IsSums d p → (i k : ℕ) → i < d → k < d → AtMost (half_at p i) (plus (p i k) (half_at p k))
half_over d p s i k id kd =
    let bi = s.inside i id in
    let bk = s.inside k kd in
    let far : AtMost (p i (bar i)) (plus (p i k) (p k (bar i))) = s.triangle i k (bar i) id kd bi in
    let near : AtMost (p k (bar i)) (plus (p k (bar k)) (p (bar k) (bar i))) = s.triangle k (bar k) (bar i) kd bk bi in
    let same : p (bar k) (bar i) ≡ p i k = sym (s.turned i k id kd) in
    let all : AtMost (p i (bar i)) (plus (p i k) (plus (p k (bar k)) (p (bar k) (bar i)))) = at_most_trans (p i (bar i)) (plus (p i k) (p k (bar i))) _ far (plus_le (p i k) (p k (bar i)) (p i k) _ (at_most_same (p i k)) near) in
    halved_le (p i (bar i)) (p i k) (p k (bar k)) (subst (λ t. AtMost (p i (bar i)) (plus (p i k) (plus (p k (bar k)) t))) same all)

half_through : (d : ℕ) (p : ℕ → ℕ → Option ℤ) → IsSums d p → (i k : ℕ) → i < d → k < d → AtMost (half_at p i) (plus (evened p i k) (half_at p k))
half_through d p s i k id kd = by (cases_eq k (bar i))
  where
    by : (k ≡ bar i) ⊎ (k ≢ bar i) → AtMost (half_at p i) (plus (evened p i k) (half_at p k))
    by (inr n) = rw (evened_other p i k n) (half_over d p s i k id kd)
    by (inl e) =
        let more : AtMost (half_at p i) (plus (half_at p i) (plus (half_at p i) (half_at p (bar i)))) = plus_more (half_at p i) (plus (half_at p i) (half_at p (bar i))) (there_half p i (s.halves i id)) in
        let one : plus (half_at p i) (plus (half_at p i) (half_at p (bar i))) ≡ plus (evened p i (bar i)) (half_at p (bar i)) =
        sym (plus_assoc (half_at p i) (half_at p i) (half_at p (bar i))) ∙ ap (λ t. plus t (half_at p (bar i))) (sym (even_half (p i (bar i))) ∙ sym (evened_here p i)) in
        subst (λ q. AtMost (half_at p i) (plus (evened p i q) (half_at p q))) (sym e) (subst (λ t. AtMost (half_at p i) t) one more)

half_back : (d : ℕ) (p : ℕ → ℕ → Option ℤ) → IsSums d p → (k j : ℕ) → k < d → j < d → AtMost (half_at p (bar j)) (plus (evened p k j) (half_at p (bar k)))
half_back d p s k j kd jd =
    subst (λ t. AtMost (half_at p (bar j)) (plus t (half_at p (bar k)))) (sym (evened_turned p k j (s.turned k j kd jd))) (half_through d p s (bar j) (bar k) (s.inside j jd) (s.inside k kd))

-- the tight bounds
abbrev tight_at : (ℕ → ℕ → Option ℤ) → ℕ → ℕ → Option ℤ
tight_at p i j = lesser (evened p i j) (plus (half_at p i) (half_at p (bar j)))

triangle_at : (d : ℕ) (p : ℕ → ℕ → Option ℤ) → IsSums d p → (i k j : ℕ) → i < d → k < d → j < d → AtMost (tight_at p i j) (plus (tight_at p i k) (tight_at p k j))
triangle_at d p s i k j id kd jd = by (lesser_one (evened p i k) (plus (half_at p i) (half_at p (bar k)))) (lesser_one (evened p k j) (plus (half_at p k) (half_at p (bar j))))
  where
    left : AtMost (tight_at p i j) (evened p i j)
    left = lesser_left (evened p i j) (plus (half_at p i) (half_at p (bar j)))

    right : AtMost (tight_at p i j) (plus (half_at p i) (half_at p (bar j)))
    right = lesser_right (evened p i j) (plus (half_at p i) (half_at p (bar j)))

    over : (b : Option ℤ) → AtMost (plus (half_at p i) (half_at p (bar j))) b → AtMost (tight_at p i j) b
    over b h = at_most_trans (tight_at p i j) (plus (half_at p i) (half_at p (bar j))) b right h

    first : AtMost (half_at p i) (plus (evened p i k) (half_at p k))
    first = half_through d p s i k id kd

    last : AtMost (half_at p (bar j)) (plus (evened p k j) (half_at p (bar k)))
    last = half_back d p s k j kd jd

    from_first : AtMost (plus (half_at p i) (half_at p (bar j))) (plus (evened p i k) (plus (half_at p k) (half_at p (bar j))))
    from_first =
        subst (λ t. AtMost (plus (half_at p i) (half_at p (bar j))) t) (plus_assoc (evened p i k) (half_at p k) (half_at p (bar j)))
        (plus_le (half_at p i) (half_at p (bar j)) (plus (evened p i k) (half_at p k)) (half_at p (bar j)) first (at_most_same (half_at p (bar j))))

    from_last : AtMost (plus (half_at p i) (half_at p (bar j))) (plus (plus (half_at p i) (half_at p (bar k))) (evened p k j))
    from_last =
        subst (λ t. AtMost (plus (half_at p i) (half_at p (bar j))) t) (ap (λ t. plus (half_at p i) t) (plus_comm (evened p k j) (half_at p (bar k))) ∙ sym (plus_assoc (half_at p i) (half_at p (bar k)) (evened p k j)))
        (plus_le (half_at p i) (half_at p (bar j)) (half_at p i) (plus (evened p k j) (half_at p (bar k))) (at_most_same (half_at p i)) last)

    apart : (k ≡ bar i) ⊎ (k ≢ bar i) → (j ≡ bar k) ⊎ (j ≢ bar k) → AtMost (tight_at p i j) (plus (evened p i k) (evened p k j))
    apart q (inl e) =
        let back : bar j ≡ k = ap bar e ∙ bar_bar k in
        let there : plus (half_at p k) (half_at p (bar j)) ≡ evened p k j = ap (λ t. plus (half_at p k) (half_at p t)) back ∙ sym (even_half (p k (bar k))) ∙ sym (evened_here p k) ∙ ap (λ t. evened p k t) (sym e) in
        over (plus (evened p i k) (evened p k j)) (subst (λ t. AtMost (plus (half_at p i) (half_at p (bar j))) (plus (evened p i k) t)) there from_first)
    apart (inl e) (inr n) =
        let back : bar k ≡ i = ap bar e ∙ bar_bar i in
        let there : plus (half_at p i) (half_at p (bar k)) ≡ evened p i k = ap (λ t. plus (half_at p i) (half_at p t)) back ∙ sym (even_half (p i (bar i))) ∙ sym (evened_here p i) ∙ ap (λ t. evened p i t) (sym e) in
        over (plus (evened p i k) (evened p k j)) (subst (λ t. AtMost (plus (half_at p i) (half_at p (bar j))) (plus t (evened p k j))) there from_last)
    apart (inr m) (inr n) =
        let plain : AtMost (tight_at p i j) (plus (p i k) (p k j)) =
        at_most_trans (tight_at p i j) (evened p i j) (plus (p i k) (p k j)) left (at_most_trans (evened p i j) (p i j) (plus (p i k) (p k j)) (evened_most p i j) (s.triangle i k j id kd jd)) in
        rw (evened_other p i k m) (rw (evened_other p k j n) plain)

    by : (tight_at p i k ≡ evened p i k) ⊎ (tight_at p i k ≡ plus (half_at p i) (half_at p (bar k))) → (tight_at p k j ≡ evened p k j) ⊎ (tight_at p k j ≡ plus (half_at p k) (half_at p (bar j))) → AtMost (tight_at p i j) (plus (tight_at p i k) (tight_at p k j))
    by (inl a) (inl b) = subst (λ t. AtMost (tight_at p i j) (plus t (tight_at p k j))) (sym a) (subst (λ t. AtMost (tight_at p i j) (plus (evened p i k) t)) (sym b) (apart (cases_eq k (bar i)) (cases_eq j (bar k))))
    by (inl a) (inr b) = subst (λ t. AtMost (tight_at p i j) (plus t (tight_at p k j))) (sym a) (subst (λ t. AtMost (tight_at p i j) (plus (evened p i k) t)) (sym b) (over _ from_first))
    by (inr a) (inl b) = subst (λ t. AtMost (tight_at p i j) (plus t (tight_at p k j))) (sym a) (subst (λ t. AtMost (tight_at p i j) (plus (plus (half_at p i) (half_at p (bar k))) t)) (sym b) (over _ from_last))
    by (inr a) (inr b) =
        let zero : AtMost (half_at p (bar j)) (plus (half_at p (bar j)) (plus (half_at p k) (half_at p (bar k)))) = plus_more (half_at p (bar j)) (plus (half_at p k) (half_at p (bar k))) (there_half p k (s.halves k kd)) in
        let turn : plus (half_at p (bar j)) (plus (half_at p k) (half_at p (bar k))) ≡ plus (half_at p (bar k)) (plus (half_at p k) (half_at p (bar j))) =
        plus_comm (half_at p (bar j)) (plus (half_at p k) (half_at p (bar k))) ∙ ap (λ t. plus t (half_at p (bar j))) (plus_comm (half_at p k) (half_at p (bar k))) ∙ plus_assoc (half_at p (bar k)) (half_at p k) (half_at p (bar j)) in
        let far : AtMost (plus (half_at p i) (half_at p (bar j))) (plus (half_at p i) (plus (half_at p (bar k)) (plus (half_at p k) (half_at p (bar j))))) =
        plus_le (half_at p i) (half_at p (bar j)) (half_at p i) _ (at_most_same (half_at p i)) (subst (λ t. AtMost (half_at p (bar j)) t) turn zero) in
        subst (λ t. AtMost (tight_at p i j) (plus t (tight_at p k j))) (sym a) (subst (λ t. AtMost (tight_at p i j) (plus (plus (half_at p i) (half_at p (bar k))) t)) (sym b)
        (over _ (subst (λ t. AtMost (plus (half_at p i) (half_at p (bar j))) t) (sym (plus_assoc (half_at p i) (half_at p (bar k)) (plus (half_at p k) (half_at p (bar j))))) far)))

pub tight_triangle : (d : ℕ) (p : ℕ → ℕ → Option ℤ) → IsSums d p → (i k j : ℕ) → i < d → k < d → j < d → AtMost (tight (evened p) i j) (plus (tight (evened p) i k) (tight (evened p) k j))
tight_triangle d p s i k j id kd jd = rw (tight_is p i j) (rw (tight_is p i k) (rw (tight_is p k j) (triangle_at d p s i k j id kd jd)))

-- ---- closing what is closed
even_again : (b : Option ℤ) → even_down (even_down b) ≡ even_down b
even_again None = refl
even_again (Some z) = ap (λ (h : ℤ). Some (h +ℤ h)) (half_double (int_div_euclid z (pos 2)))

-- the bounds of a tight matrix from a place to its negative are even
pub tight_even : (p : ℕ → ℕ → Option ℤ) (i j : ℕ) → evened (tight (evened p)) i j ≡ tight (evened p) i j
tight_even p i j = by (cases_eq j (bar i))
  where
    here : even_down (tight (evened p) i (bar i)) ≡ tight (evened p) i (bar i)
    here = rw (tight_row (evened p) i) (rw (evened_here p i) (even_again (p i (bar i))))

    by : (j ≡ bar i) ⊎ (j ≢ bar i) → evened (tight (evened p)) i j ≡ tight (evened p) i j
    by (inl e) = subst (λ k. evened (tight (evened p)) i k ≡ tight (evened p) i k) (sym e) (evened_here (tight (evened p)) i ∙ here)
    by (inr n) = evened_other (tight (evened p)) i j n
