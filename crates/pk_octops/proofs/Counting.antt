-- How many bounds of a matrix are numbers, and how that falls as it is widened.
use Rattle.std.specs.Prelude.{◌≡◌, ◌≢◌, ℕ, zero, suc, ◌<◌, ◌≤◌, ◌+◌, ◌*◌, ℤ, Option, Some, None, Bool, true, false, if◌then◌else◌, List, [], ◌∷◌, length, ◌⊎◌}
use Rattle.std.proofs.Common.{◌∙◌, refl, sym, subst, arith, inl, inr}
use Rattle.std.proofs.lemmas.Bool.{cases_eq, cases_lt}
use Rattle.pk_octmat.specs.Bounds.{AtMost, is_at_most}
use Rattle.pk_octmat.specs.Octagon.{Octagon, entry}
use Rattle.pk_octmat.proofs.Cells.{cell_column_out, cell_row_out}
use Rattle.pk_octops.specs.Tables.{IsBelow, widened}
use Rattle.pk_octops.specs.Chains.{IsChain, IsStep, IsWidening, LosesNumber, sum_below, one, numbers, numbers_of, NumbersAreRanks}
use Rattle.pk_octops.proofs.Pointwise.{at_most_from}

-- ---- a bound that isn't at most another is found
find_in : (a b : ℕ → Option ℤ) (k : ℕ) → ((j : ℕ) → j < k → AtMost (a j) (b j)) ⊎ ((j : ℕ) × (j < k) × (is_at_most (a j) (b j) ≡ false))
find_in a b zero = inl (λ j h. absurd (omega arith))
find_in a b (suc k) = by (find_in a b k) (is_at_most (a k) (b k)) refl
  where
    at : (j : ℕ) → ((j : ℕ) → j < k → AtMost (a j) (b j)) → AtMost (a k) (b k) → j < suc k → (j ≡ k) ⊎ (j ≢ k) → AtMost (a j) (b j)
    at j h here l (inl e) = subst (λ q. AtMost (a q) (b q)) (sym e) here
    at j h here l (inr n) = h j (omega arith)

    by : ((j : ℕ) → j < k → AtMost (a j) (b j)) ⊎ ((j : ℕ) × (j < k) × (is_at_most (a j) (b j) ≡ false)) → (t : Bool) → is_at_most (a k) (b k) ≡ t
        → ((j : ℕ) → j < suc k → AtMost (a j) (b j)) ⊎ ((j : ℕ) × (j < suc k) × (is_at_most (a j) (b j) ≡ false))
    by (inr f) t e = inr (f.0, omega (arith, f.1), f.2)
    by (inl h) false e = inr (k, omega arith, e)
    by (inl h) true e = inl (λ j l. at j h (at_most_from (a k) (b k) e) l (cases_eq j k))

find_all : (d : ℕ) (a b : ℕ → ℕ → Option ℤ) (k : ℕ) → ((i j : ℕ) → i < k → j < d → AtMost (a i j) (b i j)) ⊎ ((i : ℕ) × (j : ℕ) × (i < k) × (j < d) × (is_at_most (a i j) (b i j) ≡ false))
find_all d a b zero = inl (λ i j h l. absurd (omega arith))
find_all d a b (suc k) = by (find_all d a b k) (find_in (a k) (b k) d)
  where
    at : (i j : ℕ) → ((i j : ℕ) → i < k → j < d → AtMost (a i j) (b i j)) → ((j : ℕ) → j < d → AtMost (a k j) (b k j)) → i < suc k → j < d → (i ≡ k) ⊎ (i ≢ k) → AtMost (a i j) (b i j)
    at i j h here l m (inl e) = subst (λ q. AtMost (a q j) (b q j)) (sym e) (here j m)
    at i j h here l m (inr n) = h i j (omega arith) m

    by : ((i j : ℕ) → i < k → j < d → AtMost (a i j) (b i j)) ⊎ ((i : ℕ) × (j : ℕ) × (i < k) × (j < d) × (is_at_most (a i j) (b i j) ≡ false))
        → ((j : ℕ) → j < d → AtMost (a k j) (b k j)) ⊎ ((j : ℕ) × (j < d) × (is_at_most (a k j) (b k j) ≡ false))
        → ((i j : ℕ) → i < suc k → j < d → AtMost (a i j) (b i j)) ⊎ ((i : ℕ) × (j : ℕ) × (i < suc k) × (j < d) × (is_at_most (a i j) (b i j) ≡ false))
    by (inr f) q = inr (f.0, f.1, omega (arith, f.2), f.3, f.4)
    by (inl h) (inr f) = inr (k, f.0, omega arith, f.1, f.2)
    by (inl h) (inl g) = inl (λ i j l m. at i j h g l m (cases_eq i k))

entry_outside : (m : Octagon) (n i j : ℕ) → m.vars ≡ n → (2 * n ≤ i) ⊎ (2 * n ≤ j) → entry m i j ≡ None
entry_outside m n i j e (inl h) = cell_row_out (2 * m.vars) m.cells i j (omega (arith, e))
entry_outside m n i j e (inr h) = cell_column_out (2 * m.vars) m.cells i j (omega (arith, e))

below_all : (n : ℕ) (a b : Octagon) → a.vars ≡ n → b.vars ≡ n → ((i j : ℕ) → i < 2 * n → j < 2 * n → AtMost (entry a i j) (entry b i j)) → IsBelow a b
below_all n a b p q h = record { each = λ i j. by i j (cases_lt i (2 * n)) (cases_lt j (2 * n)) }
  where
    out : (i j : ℕ) → (2 * n ≤ i) ⊎ (2 * n ≤ j) → AtMost (entry a i j) (entry b i j)
    out i j o = rw (entry_outside a n i j p o) (rw (entry_outside b n i j q o) tt)

    by : (i j : ℕ) → (i < 2 * n) ⊎ (2 * n ≤ i) → (j < 2 * n) ⊎ (2 * n ≤ j) → AtMost (entry a i j) (entry b i j)
    by i j (inl l) (inl m) = h i j l m
    by i j (inl l) (inr g) = out i j (inr g)
    by i j (inr g) r = out i j (inl g)

number_of : (h n : Option ℤ) → is_at_most n h ≡ false → (z : ℤ) × (h ≡ Some z)
number_of None None e = absurd (cc)
number_of None (Some n) e = absurd (cc)
number_of (Some h) n e = (h, refl)

pub step_loses : (h w : Octagon) → IsStep h w → LosesNumber h w
step_loses h w s = by (find_all (2 * h.vars) (entry s.by) (entry h) (2 * h.vars))
  where
    by : ((i j : ℕ) → i < 2 * h.vars → j < 2 * h.vars → AtMost (entry s.by i j) (entry h i j)) ⊎ ((i : ℕ) × (j : ℕ) × (i < 2 * h.vars) × (j < 2 * h.vars) × (is_at_most (entry s.by i j) (entry h i j) ≡ false)) → LosesNumber h w
    by (inl below) = absurd (s.above (below_all h.vars s.by h s.vars refl below))
    by (inr f) =
        let z = number_of (entry h f.0 f.1) (entry s.by f.0 f.1) f.4 in
        record { from = f.0; to = f.1; number = z.0; old = z.1; new = s.is.each f.0 f.1 f.2 f.3 ∙ rw f.4 refl }

-- ---- sums of small numbers
sum_le : (k : ℕ) (f g : ℕ → ℕ) → ((i : ℕ) → i < k → f i ≤ g i) → sum_below k f ≤ sum_below k g
sum_le zero f g h = omega arith
sum_le (suc k) f g h = omega (arith, h k (omega arith), sum_le k f g (λ i l. h i (omega arith)))

sum_lt : (k : ℕ) (f g : ℕ → ℕ) → ((i : ℕ) → i < k → f i ≤ g i) → (at : ℕ) → at < k → f at < g at → sum_below k f < sum_below k g
sum_lt zero f g h at l s = absurd (omega arith)
sum_lt (suc k) f g h at l s = by (cases_eq at k) (λ m. sum_lt k f g (λ i q. h i (omega arith)) at m s)
  where
    by : (at ≡ k) ⊎ (at ≢ k) → (at < k → sum_below k f < sum_below k g) → f k + sum_below k f < g k + sum_below k g
    by (inl e) ih = let here : f k < g k = subst (λ q. f q < g q) e s in omega (arith, here, sum_le k f g (λ i q. h i (omega arith)))
    by (inr n) ih = omega (arith, ih (omega arith), h k (omega arith))

sum_most : (k m : ℕ) (f : ℕ → ℕ) → ((i : ℕ) → i < k → f i ≤ m) → sum_below k f ≤ k * m
sum_most zero m f h = omega arith
sum_most (suc k) m f h = let more : suc k * m ≡ m + k * m = omega arith in omega (arith, more, h k (omega arith), sum_most k m f (λ i l. h i (omega arith)))

-- ---- the numbers of a matrix
one_most : (b : Option ℤ) → one b ≤ 1
one_most None = omega arith
one_most (Some z) = omega arith

one_widened : (h n : Option ℤ) → one (widened h n) ≤ one h
one_widened h n = by (is_at_most n h)
  where
    by : (t : Bool) → one (if t then h else None) ≤ one h
    by true = omega arith
    by false = omega arith

numbers_most : (d : ℕ) (e : ℕ → ℕ → Option ℤ) → numbers d e ≤ d * d
numbers_most d e =
    sum_most d d (λ i. sum_below d (λ j. one (e i j)))
    (λ i l. let row : sum_below d (λ j. one (e i j)) ≤ d * 1 = sum_most d 1 (λ j. one (e i j)) (λ j m. one_most (e i j)) in omega (arith, row))

numbers_fall : (d : ℕ) (e f : ℕ → ℕ → Option ℤ) → ((i j : ℕ) → i < d → j < d → one (f i j) ≤ one (e i j)) → (i j : ℕ) → i < d → j < d → one (f i j) < one (e i j) → numbers d f < numbers d e
numbers_fall d e f h i j id jd s =
    sum_lt d (λ a. sum_below d (λ b. one (f a b))) (λ a. sum_below d (λ b. one (e a b)))
    (λ a ad. sum_le d (λ b. one (f a b)) (λ b. one (e a b)) (λ b bd. h a b ad bd)) i id
    (sum_lt d (λ b. one (f i b)) (λ b. one (e i b)) (λ b bd. h i b id bd) j jd s)

inside : (m : Octagon) (i j : ℕ) (z : ℤ) → entry m i j ≡ Some z → (i < 2 * m.vars) × (j < 2 * m.vars)
inside m i j z e = by (cases_lt i (2 * m.vars)) (cases_lt j (2 * m.vars))
  where
    by : (i < 2 * m.vars) ⊎ (2 * m.vars ≤ i) → (j < 2 * m.vars) ⊎ (2 * m.vars ≤ j) → (i < 2 * m.vars) × (j < 2 * m.vars)
    by (inl l) (inl r) = (l, r)
    by (inl l) (inr g) = let no : None ≡ Some z = sym (entry_outside m m.vars i j refl (inr g)) ∙ e in absurd (cc)
    by (inr g) r = let no : None ≡ Some z = sym (entry_outside m m.vars i j refl (inl g)) ∙ e in absurd (cc)

numbers_stay : (h n w : Octagon) → IsWidening h n w → numbers_of w ≤ numbers_of h
numbers_stay h n w is =
    subst (λ k. numbers (2 * k) (entry w) ≤ numbers (2 * h.vars) (entry h)) (sym is.vars)
    (sum_le (2 * h.vars) (λ i. sum_below (2 * h.vars) (λ j. one (entry w i j))) (λ i. sum_below (2 * h.vars) (λ j. one (entry h i j)))
    (λ i id. sum_le (2 * h.vars) (λ j. one (entry w i j)) (λ j. one (entry h i j)) (λ j jd. rw (is.each i j id jd) (one_widened (entry h i j) (entry n i j)))))

step_falls : (h w : Octagon) → IsStep h w → numbers (2 * w.vars) (entry w) < numbers (2 * h.vars) (entry h)
step_falls h w s =
    let l = step_loses h w s in
    let at = inside h l.from l.to l.number l.old in
    let less : one (entry w l.from l.to) < one (entry h l.from l.to) = rw l.new (rw l.old (omega arith)) in
    subst (λ n. numbers (2 * n) (entry w) < numbers (2 * h.vars) (entry h)) (sym s.is.vars)
    (numbers_fall (2 * h.vars) (entry h) (entry w) (λ i j id jd. rw (s.is.each i j id jd) (one_widened (entry h i j) (entry s.by i j))) l.from l.to at.0 at.1 less)

chain_numbers : (h : Octagon) (ws : List Octagon) → IsChain h ws → length ws ≤ numbers (2 * h.vars) (entry h)
chain_numbers h [] c = omega arith
chain_numbers h (w ∷ ws) c = omega (arith, step_falls h w c.0, chain_numbers w ws c.1)

pub chain_ends : (h : Octagon) (ws : List Octagon) → IsChain h ws → length ws ≤ 2 * h.vars * (2 * h.vars)
chain_ends h ws c = omega (arith, chain_numbers h ws c, numbers_most (2 * h.vars) (entry h))

pub numbers_are_ranks : NumbersAreRanks
numbers_are_ranks = record {
  few = λ h. numbers_most (2 * h.vars) (entry h);
  stays = numbers_stay;
  falls = λ h n w vars above is. step_falls h w (record { by = n; vars = vars; above = above; is = is });
}
