-- A matrix while the bounds of one place are taken away.
use Rattle.std.specs.Prelude.{◌≡◌, ◌≢◌, ℕ, ◌<◌, ◌≤◌, ◌+◌, ◌*◌, ◌/◌, ◌%◌, ◌^◌, ◌==◌, ◌||◌, if◌then◌else◌, ℤ, pos, Option, Some, None, Bool, true, false, List, ◌⊎◌, length}
use Rattle.std.proofs.Common.{◌∙◌, ap, refl, subst, sym, arith, inl, inr, set, length-set}
use Rattle.std.proofs.lemmas.Bool.{cases_eq, cases_lt}
use Rattle.std.proofs.lemmas.Bool.Decides.{nat_tests}
use Rattle.pk_octmat.specs.Bounds.{IsNear}
use Rattle.pk_octmat.specs.Octagon.{cell_at, bar, top_bound, forgotten, IsMatrix}
use Rattle.pk_octmat.specs.Half.{block, kept_at, spot}
use Rattle.pk_octmat.proofs.Bars.{bar_bar, bar_other}
use Rattle.pk_octmat.proofs.Cells.{cell_row_out, cell_column_out}
use Rattle.pk_octmat.proofs.Half.{kept_set_other, kept_set_same, kept_set_turned}
use Rattle.pk_octmat.proofs.Written.{IsPlace, is_place}
use Rattle.pk_octmat.proofs.Matrices.{matrix_from, top_near, top_same, top_other, top_turned}

-- the cell (a, b) is in row p or in the column of its negative, and was come to before j
abbrev pub IsCleared : ℕ → ℕ → ℕ → ℕ → Type 0
IsCleared p j a b = ((a ≡ p) × (b < j)) ⊎ ((b ≡ bar p) × (bar a < j))

pub record Clearing (d p j : ℕ) (e : ℕ → ℕ → Option ℤ) (cells : List (Option ℤ)) : Type 0 where
  pub size : length cells ≡ block (d / 2)
  pub done : (a b : ℕ) → a < d → b < d → IsCleared p j a b → kept_at d cells a b ≡ top_bound a b
  pub rest : (a b : ℕ) → a < d → b < d → (IsCleared p j a b → ⊥) → kept_at d cells a b ≡ e a b

pub clearing_none : (d p : ℕ) (cells : List (Option ℤ)) → length cells ≡ block (d / 2) → Clearing d p 0 (kept_at d cells) cells
clearing_none d p cells size = record { size = size; done = λ a b ad bd h. absurd (none a b h); rest = λ a b ad bd n. refl }
  where
    none : (a b : ℕ) → IsCleared p 0 a b → ⊥
    none a b (inl w) = omega (arith, w.1)
    none a b (inr w) = omega (arith, w.1)

-- a bound is that which is written, its coherent one, or another
data Which (p j a b : ℕ) : Type 0 where
  here : (a ≡ p) → (b ≡ j) → Which p j a b
  there : (a ≡ bar j) → (b ≡ bar p) → (a ≢ b) → Which p j a b
  elsewhere : ((a ≡ p) → (b ≡ j) → ⊥) → ((a ≡ bar j) → (b ≡ bar p) → (a ≢ b) → ⊥) → Which p j a b

which : (p j a b : ℕ) → Which p j a b
which p j a b = by (is_place a b p j) (is_place a b (bar j) (bar p)) (cases_eq a b)
  where
    by : IsPlace a b p j ⊎ (IsPlace a b p j → ⊥) → IsPlace a b (bar j) (bar p) ⊎ (IsPlace a b (bar j) (bar p) → ⊥) → (a ≡ b) ⊎ (a ≢ b) → Which p j a b
    by (inl s) t u = here s.0 s.1
    by (inr m) (inl s) (inr n) = there s.0 s.1 n
    by (inr m) (inl s) (inl q) = elsewhere (λ u v. m (u, v)) (λ u v w. w q)
    by (inr m) (inr n) u = elsewhere (λ u v. m (u, v)) (λ u v w. n (u, v))

pub clearing_more : (d p j : ℕ) (e : ℕ → ℕ → Option ℤ) (cells : List (Option ℤ)) (x : Option ℤ) → Clearing d p j e cells → d % 2 ≡ 0 → p < d → j < d → ((i : ℕ) → i < d → e i i ≡ Some (pos 0)) → x ≡ top_bound p j
    → Clearing d p (j + 1) e (set cells (spot p j) x)
clearing_more d p j e cells x c pairs pd jd zero is = record {
  size = length-set cells (spot p j) x ∙ c.size;
  done = λ a b ad bd h. done a b ad bd h (which p j a b);
  rest = λ a b ad bd n.
      kept_set_other d cells p j a b x (λ u v. n (inl (u, omega (arith, v)))) (λ u v w. n (inr (v, omega (arith, u))))
      ∙ c.rest a b ad bd (λ h. n (elim h [ inl w ↦ inl (w.0, omega (arith, w.1)) | inr w ↦ inr (w.0, omega (arith, w.1)) ]));
}
  where
    news : List (Option ℤ)
    news = set cells (spot p j) x

    back : bar (bar j) ≡ j
    back = bar_bar j

    written_there : p ≢ j → kept_at d news (bar j) (bar p) ≡ top_bound (bar j) (bar p)
    written_there n = kept_set_turned d cells p j x pairs c.size pd jd n ∙ is ∙ top_turned p j (bar j) (bar p) refl refl

    -- the other number of the diagonal
    own : (a b : ℕ) → a < d → (a ≡ b) → ((a ≡ p) ⊎ (a ≢ p)) → (a ≡ p → ⊥) → (b ≡ bar p) → kept_at d cells a b ≡ top_bound a b
    own a b ad s w n q = subst (λ k. kept_at d cells a k ≡ top_bound a k) s (by (cases_lt p j))
      where
        is_bar : a ≡ bar p
        is_bar = s ∙ q

        turned : bar a ≡ p
        turned = ap bar is_bar ∙ bar_bar p

        by : (p < j) ⊎ (j ≤ p) → kept_at d cells a a ≡ top_bound a a
        by (inl l) = c.done a a ad ad (inr (is_bar, subst (λ k. k < j) (sym turned) l))
        by (inr g) = c.rest a a ad ad (λ h. elim h [ inl v ↦ n v.0 | inr v ↦ absurd (omega (arith, v.1, turned, g)) ]) ∙ zero a ad ∙ sym (top_same a)

    done : (a b : ℕ) → a < d → b < d → IsCleared p (j + 1) a b → Which p j a b → kept_at d news a b ≡ top_bound a b
    done a b ad bd h (here u v) = rw u (rw v (kept_set_same d cells p j x pairs c.size pd jd ∙ is))
    done a b ad bd h (there u v n) = rw u (rw v (written_there (λ s. n (u ∙ ap bar (sym s) ∙ sym v))))
    done a b ad bd h (elsewhere m n) = kept_set_other d cells p j a b x m n ∙ at h
      where
        at : IsCleared p (j + 1) a b → kept_at d cells a b ≡ top_bound a b
        at (inl w) = c.done a b ad bd (inl (w.0, omega (arith, w.1, other)))
          where
            other : b ≢ j
            other = λ v. m w.0 v
        at (inr w) = of (cases_eq (bar a) j) (cases_eq a b)
          where
            of : (bar a ≡ j) ⊎ (bar a ≢ j) → (a ≡ b) ⊎ (a ≢ b) → kept_at d cells a b ≡ top_bound a b
            of (inl q) (inr t) = absurd (n (sym (bar_bar a) ∙ ap bar q) w.0 t)
            of (inl q) (inl t) = own a b ad t (cases_eq a p) (λ s. absurd (bar_other p (sym (w.0) ∙ sym t ∙ s))) w.0
            of (inr q) t = c.done a b ad bd (inr (w.0, omega (arith, w.1, q)))

-- the bounds from place p and to its negative taken away
abbrev pub cleared : (ℕ → ℕ → Option ℤ) → ℕ → ℕ → ℕ → ℕ → Option ℤ
cleared e p q a b = if (a == p) || (b == q) then top_bound a b else e a b

same_from : (x y : ℕ) → (x == y) ≡ true → x ≡ y
same_from x y h = grind (arith, nat_tests)

other_from : (x y : ℕ) → (x == y) ≡ false → x ≢ y
other_from x y h = grind (arith, nat_tests)

pub clearing_all : (d p j : ℕ) (e : ℕ → ℕ → Option ℤ) (cells : List (Option ℤ)) → Clearing d p j e cells → d % 2 ≡ 0 → d ≤ j → (a b : ℕ) → a < d → b < d → kept_at d cells a b ≡ cleared e p (bar p) a b
clearing_all d p j e cells c pairs dj a b ad bd = by (a == p) refl (b == bar p) refl
  where
    by : (s : Bool) → (a == p) ≡ s → (t : Bool) → (b == bar p) ≡ t → kept_at d cells a b ≡ (if s || t then top_bound a b else e a b)
    by true q t r = let is : a ≡ p = grind (arith, nat_tests) in c.done a b ad bd (inl (is, omega arith))
    by false q true r = c.done a b ad bd (inr (same_from b (bar p) r, omega (arith, pairs)))
    by false q false r = let no : a ≢ p = grind (arith, nat_tests) in c.rest a b ad bd (λ h. elim h [ inl w ↦ no w.0 | inr w ↦ other_from b (bar p) r w.0 ])

-- the diagonal stays
pub clearing_zero : (d p i : ℕ) (e f : ℕ → ℕ → Option ℤ) → e i i ≡ Some (pos 0) → f i i ≡ cleared e p (bar p) i i → f i i ≡ Some (pos 0)
clearing_zero d p i e f z is = is ∙ by ((i == p) || (i == bar p))
  where
    by : (t : Bool) → (if t then top_bound i i else e i i) ≡ Some (pos 0)
    by true = top_same i
    by false = z

-- what holds of a variable's two places
place_of : (k i : ℕ) → ((i ≡ 2 * k) ⊎ (i ≡ 2 * k + 1)) ⊎ (((i / 2) ≡ k) → ⊥)
place_of k i = by (cases_eq i (2 * k)) (cases_eq i (2 * k + 1))
  where
    by : (i ≡ 2 * k) ⊎ (i ≢ 2 * k) → (i ≡ 2 * k + 1) ⊎ (i ≢ 2 * k + 1) → ((i ≡ 2 * k) ⊎ (i ≡ 2 * k + 1)) ⊎ (((i / 2) ≡ k) → ⊥)
    by (inl p) q = inl (inl p)
    by (inr m) (inl q) = inl (inr q)
    by (inr m) (inr n) = inr (λ h. omega (arith, m, n))

is_one : (i k : ℕ) → ((i == (2 * k)) || (i == (2 * k + 1))) ≡ ((i / 2) == k)
is_one i k = grind (arith, nat_tests)

-- both places of a variable are cleared
pub forgotten_is : (e f g : ℕ → ℕ → Option ℤ) (k a b : ℕ) → f a b ≡ cleared e (2 * k) (bar (2 * k)) a b → g a b ≡ cleared f (2 * k + 1) (bar (2 * k + 1)) a b → g a b ≡ forgotten e k a b
forgotten_is e f g k a b first second =
    let up : bar (2 * k) ≡ 2 * k + 1 = omega arith in
    let down : bar (2 * k + 1) ≡ 2 * k = omega arith in
    let one : f a b ≡ cleared e (2 * k) (2 * k + 1) a b = first ∙ ap (λ q. cleared e (2 * k) q a b) up in
    let two : g a b ≡ cleared f (2 * k + 1) (2 * k) a b = second ∙ ap (λ q. cleared f (2 * k + 1) q a b) down in
    two ∙ rw one (rw (← is_one a k) (rw (← is_one b k) (by (a == (2 * k)) (b == (2 * k + 1)) (a == (2 * k + 1)) (b == (2 * k)))))
  where
    by : (p q r s : Bool) → (if r || s then top_bound a b else (if p || q then top_bound a b else e a b)) ≡ (if (p || r) || (s || q) then top_bound a b else e a b)
    by true true true true = refl
    by true true true false = refl
    by true true false true = refl
    by true true false false = refl
    by true false true true = refl
    by true false true false = refl
    by true false false true = refl
    by true false false false = refl
    by false true true true = refl
    by false true true false = refl
    by false true false true = refl
    by false true false false = refl
    by false false true true = refl
    by false false true false = refl
    by false false false true = refl
    by false false false false = refl

forgotten_zero : (e : ℕ → ℕ → Option ℤ) (k i : ℕ) → e i i ≡ Some (pos 0) → forgotten e k i i ≡ Some (pos 0)
forgotten_zero e k i z = by ((i / 2) == k)
  where
    by : (t : Bool) → (if t || t then top_bound i i else e i i) ≡ Some (pos 0)
    by true = top_same i
    by false = z

forgotten_turned : (e : ℕ → ℕ → Option ℤ) (k i j : ℕ) → e i j ≡ e (bar j) (bar i) → forgotten e k i j ≡ forgotten e k (bar j) (bar i)
forgotten_turned e k i j t =
    let one : bar i / 2 ≡ i / 2 = omega arith in
    let other : bar j / 2 ≡ j / 2 = omega arith in
    rw one (rw other (by ((i / 2) == k) ((j / 2) == k)))
  where
    by : (p q : Bool) → (if p || q then top_bound i j else e i j) ≡ (if q || p then top_bound (bar j) (bar i) else e (bar j) (bar i))
    by true true = top_turned i j (bar j) (bar i) refl refl
    by true false = top_turned i j (bar j) (bar i) refl refl
    by false true = top_turned i j (bar j) (bar i) refl refl
    by false false = t

forgotten_near : (e : ℕ → ℕ → Option ℤ) (k i j : ℕ) → IsNear (2 ^ 66) (e i j) → IsNear (2 ^ 66) (forgotten e k i j)
forgotten_near e k i j n = by (((i / 2) == k) || ((j / 2) == k))
  where
    by : (t : Bool) → IsNear (2 ^ 66) (if t then top_bound i j else e i j)
    by true = top_near i j
    by false = n

pub forgotten_matrix : (d n k : ℕ) (xs news : List (Option ℤ)) → d ≡ 2 * n → IsMatrix d xs → length news ≡ d * d → ((a b : ℕ) → a < d → b < d → cell_at d news a b ≡ forgotten (cell_at d xs) k a b) → IsMatrix d news
forgotten_matrix d n k xs news pairs m size is =
    matrix_from d n news pairs size
    (λ i id. is i i id id ∙ forgotten_zero (cell_at d xs) k i (m.coherent.zero i id))
    (λ i j id jd. is i j id jd ∙ forgotten_turned (cell_at d xs) k i j (m.coherent.turned i j) ∙ sym (is (bar j) (bar i) (omega (arith, pairs)) (omega (arith, pairs))))
    (λ i j id jd. rw (is i j id jd) (forgotten_near (cell_at d xs) k i j (m.near i j)))

-- outside its places a matrix has no bounds, with or without those on a variable
pub forgotten_all : (d n k : ℕ) (xs news : List (Option ℤ)) → d ≡ 2 * n → k < n → ((a b : ℕ) → a < d → b < d → cell_at d news a b ≡ forgotten (cell_at d xs) k a b) → (a b : ℕ) → cell_at d news a b ≡ forgotten (cell_at d xs) k a b
forgotten_all d n k xs news pairs kn is a b = by (cases_lt a d) (cases_lt b d)
  where
    none : cell_at d xs a b ≡ None → (a ≡ b → ((a / 2) ≡ k) → ⊥) → forgotten (cell_at d xs) k a b ≡ None
    none out apart = at ((a / 2) == k) refl ((b / 2) == k) refl
      where
        top : ((a / 2) ≡ k) ⊎ ((b / 2) ≡ k) → top_bound a b ≡ None
        top (inl h) = top_other a b (λ e. apart e h)
        top (inr h) = top_other a b (λ e. apart e (ap (λ q. q / 2) e ∙ h))

        at : (s : Bool) → ((a / 2) == k) ≡ s → (t : Bool) → ((b / 2) == k) ≡ t → (if s || t then top_bound a b else cell_at d xs a b) ≡ None
        at true p t q = let h : (a / 2) ≡ k = grind (arith, nat_tests) in top (inl h)
        at false p true q = let h : (b / 2) ≡ k = grind (arith, nat_tests) in top (inr h)
        at false p false q = out

    by : (a < d) ⊎ (d ≤ a) → (b < d) ⊎ (d ≤ b) → cell_at d news a b ≡ forgotten (cell_at d xs) k a b
    by (inl ad) (inl bd) = is a b ad bd
    by (inl ad) (inr g) = cell_column_out d news a b g ∙ sym (none (cell_column_out d xs a b g) (λ e h. omega (arith, e)))
    by (inr g) q = cell_row_out d news a b g ∙ sym (none (cell_row_out d xs a b g) (λ e h. omega (arith, h, pairs)))
