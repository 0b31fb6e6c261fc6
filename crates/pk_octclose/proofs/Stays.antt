-- What is made of closed matrices and is closed.
use Rattle.std.specs.Prelude.{◌≡◌, ◌≢◌, ◌⊎◌, ℕ, ◌-◌, ◌*◌, ◌/◌, ◌^◌, ◌<◌, ◌≤◌, ◌==◌, ◌||◌, Bool, true, false, if◌then◌else◌, ℤ, pos, negsuc, neg_ℤ, ◌+ℤ◌, ◌-ℤ◌, int_lt, Option, Some, None, List, [], ◌∷◌, map}
use Rattle.std.specs.Int.{int_div_euclid}
use Rattle.std.proofs.Common.{◌∙◌, ap, refl, sym, subst, arith, inl, inr}
use Rattle.std.proofs.lemmas.Bool.{cases_eq, cases_lt}
use Rattle.std.proofs.lemmas.Int.{ints}
use Rattle.pk_octmat.specs.Bounds.{AtMost, capped, even_down, greater, halved, lesser, plus}
use Rattle.pk_octmat.specs.Octagon.{Octagon, entry, cell_at, bar, top_bound, forgotten, IsMatrix, IsOctagon, HasEntries}
use Rattle.pk_octmat.proofs.Bars.{bar_bar, bar_other}
use Rattle.pk_octmat.proofs.Cells.{cell_row_out, cell_column_out}
use Rattle.pk_octmat.proofs.Matrices.{top_same, top_other}
use Rattle.pk_octmat.proofs.Points.{at_most_capped, capped_le, capped_most, capped_near, capped_same}
use Rattle.pk_octmat.proofs.Tropical.{at_most_both, at_most_none, at_most_same, at_most_trans, lesser_above, lesser_left, lesser_right, plus_le, plus_none, greater_left, greater_right, half_high, half_low}
use Rattle.pk_octclose.specs.Walks.{IsLeast, walk_sum}
use Rattle.pk_octclose.specs.Closing.{IsClosed, evened, there_and_back, tight}
use Rattle.pk_octclose.specs.Laws.{exchange, IsInside, ClosedStayClosed}
use Rattle.pk_octclose.proofs.Again.{Sums, sums_from, even_le, half_le, evened_same}
use Rattle.pk_octclose.proofs.Closed.{closing_zero}
use Rattle.pk_octclose.proofs.Halves.{evened_here, evened_other}
use Rattle.pk_octclose.proofs.Members.{evened_most}
use Rattle.pk_octclose.proofs.Sums.{least_from}

-- ---- order

evened_le : (p f : ℕ → ℕ → Option ℤ) (i j : ℕ) → AtMost (p i j) (f i j) → AtMost (evened p i j) (evened f i j)
evened_le p f i j h = by (j == bar i)
  where
    by : (t : Bool) → AtMost (if t then even_down (p i j) else p i j) (if t then even_down (f i j) else f i j)
    by true = even_le (p i j) (f i j) h
    by false = h

lesser_le : (a b c e : Option ℤ) → AtMost a c → AtMost b e → AtMost (lesser a b) (lesser c e)
lesser_le a b c e p q = lesser_above c e (lesser a b) (at_most_trans (lesser a b) a c (lesser_left a b) p) (at_most_trans (lesser a b) b e (lesser_right a b) q)

tight_le : (d n : ℕ) (p f : ℕ → ℕ → Option ℤ) → d ≡ 2 * n → ((i j : ℕ) → i < d → j < d → AtMost (p i j) (f i j)) → (i j : ℕ) → i < d → j < d → AtMost (tight (evened p) i j) (tight (evened f) i j)
tight_le d n p f pairs low i j id jd =
    let bi : bar i < d = omega (arith, pairs) in
    let bj : bar j < d = omega (arith, pairs) in
    lesser_le _ _ _ _ (evened_le p f i j (low i j id jd))
    (half_le _ _ (plus_le _ _ _ _ (evened_le p f i (bar i) (low i (bar i) id bi)) (evened_le p f (bar j) j (low (bar j) j bj jd))))

back_le : (d n : ℕ) (p f : ℕ → ℕ → Option ℤ) → d ≡ 2 * n → ((i j : ℕ) → i < d → j < d → AtMost (p i j) (f i j)) → (i : ℕ) → i < d → AtMost (there_and_back (evened p) i) (there_and_back (evened f) i)
back_le d n p f pairs low i id =
    let bi : bar i < d = omega (arith, pairs) in
    plus_le _ _ _ _ (evened_le p f i (bar i) (low i (bar i) id bi)) (evened_le p f (bar i) i (low (bar i) i bi id))

greater_most : (a b c : Option ℤ) → AtMost a c → AtMost b c → AtMost (greater a b) c
greater_most None b c p q = p
greater_most (Some a) None c p q = q
greater_most (Some a) (Some b) c p q = by (int_lt a b)
  where
    by : (t : Bool) → AtMost (if t then Some b else Some a) c
    by true = q
    by false = p

walk_le : (e f : ℕ → ℕ → Option ℤ) → ((i j : ℕ) → AtMost (e i j) (f i j)) → (i j : ℕ) (vs : List ℕ) → AtMost (walk_sum e i vs j) (walk_sum f i vs j)
walk_le e f h i j [] = h i j
walk_le e f h i j (v ∷ vs) = plus_le _ _ _ _ (h i v) (walk_le e f h v j vs)

everywhere : (d : ℕ) (xs ys : List (Option ℤ)) → ((i j : ℕ) → i < d → j < d → AtMost (cell_at d xs i j) (cell_at d ys i j)) → (i j : ℕ) → AtMost (cell_at d xs i j) (cell_at d ys i j)
everywhere d xs ys h i j = by (cases_lt i d) (cases_lt j d)
  where
    by : (i < d) ⊎ (d ≤ i) → (j < d) ⊎ (d ≤ j) → AtMost (cell_at d xs i j) (cell_at d ys i j)
    by (inl id) (inl jd) = h i j id jd
    by (inl id) (inr g) = rw (cell_column_out d ys i j g) (at_most_none (cell_at d xs i j))
    by (inr g) q = rw (cell_row_out d ys i j g) (at_most_none (cell_at d xs i j))

-- ---- a matrix that is as low as what lies under its walks lets it be

record IsUnder (d : ℕ) (e p : ℕ → ℕ → Option ℤ) : Type 0 where
  walks : (i j : ℕ) (vs : List ℕ) → i < d → j < d → AtMost (p i j) (walk_sum e i vs j)
  zero : (i : ℕ) → i < d → AtMost (Some (pos 0)) (p i i)
  halves : (i : ℕ) → i < d → AtMost (Some (pos 0)) (there_and_back (evened p) i)
  each : (i j : ℕ) → i < d → j < d → AtMost (e i j) (capped (tight (evened p) i j))

closed_over : (d n : ℕ) (xs : List (Option ℤ)) (p : ℕ → ℕ → Option ℤ) → d ≡ 2 * n → IsMatrix d xs → IsUnder d (cell_at d xs) p → IsClosed d (cell_at d xs)
closed_over d n xs p pairs m u = record {
  sums = f;
  least = least_from d xs f d s.through (omega arith) (omega arith);
  halves = λ i id. at_most_trans (Some (pos 0)) (there_and_back (evened p) i) (there_and_back (evened f) i) (u.halves i id) (back_le d n p f pairs low i id);
  is = is;
}
  where
    s : Sums d (cell_at d xs) d
    s = sums_from d (cell_at d xs) m.coherent.zero (λ i vs id b. at_most_trans (Some (pos 0)) (p i i) (walk_sum (cell_at d xs) i vs i) (u.zero i id) (u.walks i i vs id id)) d (omega arith)

    f : ℕ → ℕ → Option ℤ
    f = s.sums

    low : (i j : ℕ) → i < d → j < d → AtMost (p i j) (f i j)
    low i j id jd = let r = s.through.reached i j id jd in subst (λ b. AtMost (p i j) b) r.is (u.walks i j r.by id jd)

    is : (i j : ℕ) → i < d → j < d → cell_at d xs i j ≡ capped (tight (evened f) i j)
    is i j id jd =
        let high : AtMost (tight (evened f) i j) (cell_at d xs i j) =
        at_most_trans (tight (evened f) i j) (evened f i j) (cell_at d xs i j) (lesser_left (evened f i j) (halved (plus (evened f i (bar i)) (evened f (bar j) j))))
        (at_most_trans (evened f i j) (f i j) (cell_at d xs i j) (evened_most f i j) (s.through.below i j id jd)) in
        at_most_both (cell_at d xs i j) (capped (tight (evened f) i j))
        (at_most_trans (cell_at d xs i j) (capped (tight (evened p) i j)) (capped (tight (evened f) i j)) (u.each i j id jd) (capped_le (tight (evened p) i j) (tight (evened f) i j) (tight_le d n p f pairs low i j id jd)))
        (capped_most (tight (evened f) i j) (cell_at d xs i j) high (m.near i j))

-- ---- joins

joined_closed : (d n : ℕ) (xs ys news : List (Option ℤ)) → d ≡ 2 * n → IsMatrix d news → IsClosed d (cell_at d xs) → IsClosed d (cell_at d ys)
    → ((i j : ℕ) → i < d → j < d → cell_at d news i j ≡ greater (cell_at d xs i j) (cell_at d ys i j)) → IsClosed d (cell_at d news)
joined_closed d n xs ys news pairs m c b is =
    closed_over d n news p pairs m (record {
      walks = λ i j vs id jd. greater_most (c.sums i j) (b.sums i j) _ (at_most_trans _ _ _ ((c.least.each i j id jd).least vs) (walk_le (cell_at d xs) (cell_at d news) left i j vs)) (at_most_trans _ _ _ ((b.least.each i j id jd).least vs) (walk_le (cell_at d ys) (cell_at d news) right i j vs));
      zero = λ i id. subst (λ z. AtMost z (p i i)) (c.least.zero i id) (greater_left (c.sums i i) (b.sums i i));
      halves = λ i id. at_most_trans (Some (pos 0)) (there_and_back (evened c.sums) i) (there_and_back (evened p) i) (c.halves i id) (back_le d n c.sums p pairs (λ i j id jd. greater_left (c.sums i j) (b.sums i j)) i id);
      each = λ i j id jd. rw (is i j id jd) (greater_most (cell_at d xs i j) (cell_at d ys i j) (capped (tight (evened p) i j))
          (rw (c.is i j id jd) (capped_le (tight (evened c.sums) i j) (tight (evened p) i j) (tight_le d n c.sums p pairs (λ i j id jd. greater_left (c.sums i j) (b.sums i j)) i j id jd)))
          (rw (b.is i j id jd) (capped_le (tight (evened b.sums) i j) (tight (evened p) i j) (tight_le d n b.sums p pairs (λ i j id jd. greater_right (c.sums i j) (b.sums i j)) i j id jd))));
    })
  where
    p : ℕ → ℕ → Option ℤ
    p i j = greater (c.sums i j) (b.sums i j)

    left : (i j : ℕ) → AtMost (cell_at d xs i j) (cell_at d news i j)
    left = everywhere d xs news (λ i j id jd. rw (is i j id jd) (greater_left (cell_at d xs i j) (cell_at d ys i j)))

    right : (i j : ℕ) → AtMost (cell_at d ys i j) (cell_at d news i j)
    right = everywhere d ys news (λ i j id jd. rw (is i j id jd) (greater_right (cell_at d xs i j) (cell_at d ys i j)))

-- ---- a variable without bounds

same_half : (i : ℕ) → bar i / 2 ≡ i / 2
same_half i = omega arith

bar_touched : (k i : ℕ) (t : Bool) → ((i / 2) == k) ≡ t → ((bar i / 2) == k) ≡ t
bar_touched k i t h = rw (same_half i) h

forgotten_left : (p : ℕ → ℕ → Option ℤ) (k i j : ℕ) → ((i / 2) == k) ≡ true → forgotten p k i j ≡ top_bound i j
forgotten_left p k i j t = rw t refl

forgotten_right : (p : ℕ → ℕ → Option ℤ) (k i j : ℕ) → ((j / 2) == k) ≡ true → forgotten p k i j ≡ top_bound i j
forgotten_right p k i j t = rw t (by ((i / 2) == k))
  where
    by : (s : Bool) → (if s || true then top_bound i j else p i j) ≡ top_bound i j
    by true = refl
    by false = refl

forgotten_apart : (p : ℕ → ℕ → Option ℤ) (k i j : ℕ) → ((i / 2) == k) ≡ false → ((j / 2) == k) ≡ false → forgotten p k i j ≡ p i j
forgotten_apart p k i j s t = rw s (rw t refl)

evened_none : (p : ℕ → ℕ → Option ℤ) (i j : ℕ) → p i j ≡ None → evened p i j ≡ None
evened_none p i j h = by (j == bar i)
  where
    by : (t : Bool) → (if t then even_down (p i j) else p i j) ≡ None
    by true = rw h refl
    by false = h

forgotten_closed : (d n k : ℕ) (xs news : List (Option ℤ)) → d ≡ 2 * n → IsMatrix d news → IsClosed d (cell_at d xs)
    → ((i j : ℕ) → i < d → j < d → cell_at d news i j ≡ forgotten (cell_at d xs) k i j) → IsClosed d (cell_at d news)
forgotten_closed d n k xs news pairs m c is =
    closed_over d n news p pairs m (record { walks = walks; zero = zero; halves = halves; each = each })
  where
    q : ℕ → ℕ → Option ℤ
    q = c.sums

    p : ℕ → ℕ → Option ℤ
    p = forgotten q k

    -- a place of the variable
    touched : ℕ → Bool
    touched i = (i / 2) == k

    from_none : (i j : ℕ) → touched i ≡ true → i ≢ j → cell_at d news i j ≡ None
    from_none i j t ne = by (cases_lt i d) (cases_lt j d)
      where
        by : (i < d) ⊎ (d ≤ i) → (j < d) ⊎ (d ≤ j) → cell_at d news i j ≡ None
        by (inl id) (inl jd) = is i j id jd ∙ forgotten_left (cell_at d xs) k i j t ∙ top_other i j ne
        by (inl id) (inr g) = cell_column_out d news i j g
        by (inr g) s = cell_row_out d news i j g

    to_none : (i j : ℕ) → touched j ≡ true → i ≢ j → cell_at d news i j ≡ None
    to_none i j t ne = by (cases_lt i d) (cases_lt j d)
      where
        by : (i < d) ⊎ (d ≤ i) → (j < d) ⊎ (d ≤ j) → cell_at d news i j ≡ None
        by (inl id) (inl jd) = is i j id jd ∙ forgotten_right (cell_at d xs) k i j t ∙ top_other i j ne
        by (inl id) (inr g) = cell_column_out d news i j g
        by (inr g) s = cell_row_out d news i j g

    walk_from : (i j : ℕ) (vs : List ℕ) → touched i ≡ true → i ≢ j → walk_sum (cell_at d news) i vs j ≡ None
    walk_from i j [] t ne = from_none i j t ne
    walk_from i j (v ∷ vs) t ne = by (walk_from i j vs t ne) (cases_eq i v)
      where
        by : walk_sum (cell_at d news) i vs j ≡ None → (i ≡ v) ⊎ (i ≢ v) → plus (cell_at d news i v) (walk_sum (cell_at d news) v vs j) ≡ None
        by h (inl s) = ap (λ b. plus (cell_at d news i v) b) (subst (λ u. walk_sum (cell_at d news) u vs j ≡ None) s h) ∙ plus_none (cell_at d news i v)
        by h (inr o) = ap (λ b. plus b (walk_sum (cell_at d news) v vs j)) (from_none i v t o)

    walk_to : (i j : ℕ) (vs : List ℕ) → touched j ≡ true → i ≢ j → walk_sum (cell_at d news) i vs j ≡ None
    walk_to i j [] t ne = to_none i j t ne
    walk_to i j (v ∷ vs) t ne = by (λ o. walk_to v j vs t o) (cases_eq v j)
      where
        by : (v ≢ j → walk_sum (cell_at d news) v vs j ≡ None) → (v ≡ j) ⊎ (v ≢ j) → plus (cell_at d news i v) (walk_sum (cell_at d news) v vs j) ≡ None
        by h (inl s) = ap (λ b. plus b (walk_sum (cell_at d news) v vs j)) (subst (λ u. cell_at d news i u ≡ None) (sym s) (to_none i j t ne))
        by h (inr o) = ap (λ b. plus (cell_at d news i v) b) (h o) ∙ plus_none (cell_at d news i v)

    same : (i j : ℕ) → touched i ≡ false → touched j ≡ false → p i j ≡ q i j
    same i j s t = forgotten_apart q k i j s t

    old : (i j : ℕ) → i < d → j < d → AtMost (cell_at d xs i j) (cell_at d news i j)
    old i j id jd = rw (is i j id jd) (by (touched i) refl (touched j) refl (cases_eq i j))
      where
        diagonal : i ≡ j → AtMost (cell_at d xs i j) (top_bound i j)
        diagonal s = subst (λ u. AtMost (cell_at d xs i u) (top_bound i u)) s (rw (top_same i) (rw (closing_zero d (cell_at d xs) (cell_at d xs) c i id) (at_most_same (Some (pos 0)))))

        top : (i ≡ j) ⊎ (i ≢ j) → AtMost (cell_at d xs i j) (top_bound i j)
        top (inl s) = diagonal s
        top (inr o) = rw (top_other i j o) (at_most_none (cell_at d xs i j))

        by : (s : Bool) → touched i ≡ s → (t : Bool) → touched j ≡ t → (i ≡ j) ⊎ (i ≢ j) → AtMost (cell_at d xs i j) (forgotten (cell_at d xs) k i j)
        by true e t g o = rw (forgotten_left (cell_at d xs) k i j e) (top o)
        by false e true g o = rw (forgotten_right (cell_at d xs) k i j g) (top o)
        by false e false g o = rw (forgotten_apart (cell_at d xs) k i j e g) (at_most_same (cell_at d xs i j))

    below : (i j : ℕ) (vs : List ℕ) → i < d → j < d → AtMost (q i j) (walk_sum (cell_at d news) i vs j)
    below i j vs id jd = at_most_trans _ _ _ ((c.least.each i j id jd).least vs) (walk_le (cell_at d xs) (cell_at d news) (everywhere d xs news old) i j vs)

    walks : (i j : ℕ) (vs : List ℕ) → i < d → j < d → AtMost (p i j) (walk_sum (cell_at d news) i vs j)
    walks i j vs id jd = by (touched i) refl (touched j) refl (cases_eq i j)
      where
        diagonal : i ≡ j → p i j ≡ top_bound i j → AtMost (p i j) (walk_sum (cell_at d news) i vs j)
        diagonal s e =
            let zero : top_bound i j ≡ q i j = subst (λ u. top_bound i u ≡ q i u) s (top_same i ∙ sym (c.least.zero i id)) in
            rw (e ∙ zero) (below i j vs id jd)

        by : (s : Bool) → touched i ≡ s → (t : Bool) → touched j ≡ t → (i ≡ j) ⊎ (i ≢ j) → AtMost (p i j) (walk_sum (cell_at d news) i vs j)
        by true e t g (inl s) = diagonal s (forgotten_left q k i j e)
        by true e t g (inr o) = rw (walk_from i j vs e o) (at_most_none (p i j))
        by false e true g (inl s) = diagonal s (forgotten_right q k i j g)
        by false e true g (inr o) = rw (walk_to i j vs g o) (at_most_none (p i j))
        by false e false g o = rw (same i j e g) (below i j vs id jd)

    zero : (i : ℕ) → i < d → AtMost (Some (pos 0)) (p i i)
    zero i id = by (touched i) refl
      where
        by : (s : Bool) → touched i ≡ s → AtMost (Some (pos 0)) (p i i)
        by true e = rw (forgotten_left q k i i e ∙ top_same i) (at_most_same (Some (pos 0)))
        by false e = rw (same i i e e ∙ c.least.zero i id) (at_most_same (Some (pos 0)))

    -- the bound from a place of the variable to its negative
    own_none : (i : ℕ) → touched i ≡ true → evened p i (bar i) ≡ None
    own_none i e = evened_none p i (bar i) (forgotten_left q k i (bar i) e ∙ top_other i (bar i) (λ s. bar_other i (sym s)))

    back_none : (j : ℕ) → touched j ≡ true → evened p (bar j) j ≡ None
    back_none j e = evened_none p (bar j) j (forgotten_right q k (bar j) j e ∙ top_other (bar j) j (bar_other j))

    halves : (i : ℕ) → i < d → AtMost (Some (pos 0)) (there_and_back (evened p) i)
    halves i id = by (touched i) refl
      where
        by : (s : Bool) → touched i ≡ s → AtMost (Some (pos 0)) (there_and_back (evened p) i)
        by true e = rw (own_none i e) tt
        by false e =
            rw (evened_same p q i (bar i) (same i (bar i) e (bar_touched k i false e)))
            (rw (evened_same p q (bar i) i (same (bar i) i (bar_touched k i false e) e)) (c.halves i id))

    tight_diagonal : (i : ℕ) → touched i ≡ true → tight (evened p) i i ≡ Some (pos 0)
    tight_diagonal i e =
        let here : evened p i i ≡ Some (pos 0) = evened_other p i i (λ s. bar_other i (sym s)) ∙ forgotten_left q k i i e ∙ top_same i in
        rw here (rw (own_none i e) refl)

    tight_from : (i j : ℕ) → touched i ≡ true → i ≢ j → tight (evened p) i j ≡ None
    tight_from i j e o = rw (evened_none p i j (forgotten_left q k i j e ∙ top_other i j o)) (rw (own_none i e) refl)

    tight_to : (i j : ℕ) → touched j ≡ true → i ≢ j → tight (evened p) i j ≡ None
    tight_to i j e o = rw (evened_none p i j (forgotten_right q k i j e ∙ top_other i j o)) (rw (back_none j e) (ap halved (plus_none (evened p i (bar i)))))

    each : (i j : ℕ) → i < d → j < d → AtMost (cell_at d news i j) (capped (tight (evened p) i j))
    each i j id jd = by (touched i) refl (touched j) refl (cases_eq i j)
      where
        diagonal : touched i ≡ true → i ≡ j → AtMost (cell_at d news i j) (capped (tight (evened p) i j))
        diagonal e s =
            subst (λ u. AtMost (cell_at d news i u) (capped (tight (evened p) i u))) s
            (rw (m.coherent.zero i id) (subst (λ b. AtMost (Some (pos 0)) (capped b)) (sym (tight_diagonal i e)) (at_most_capped (Some (pos 0)))))

        none : tight (evened p) i j ≡ None → AtMost (cell_at d news i j) (capped (tight (evened p) i j))
        none e = subst (λ b. AtMost (cell_at d news i j) (capped b)) (sym e) (at_most_none (cell_at d news i j))

        by : (s : Bool) → touched i ≡ s → (t : Bool) → touched j ≡ t → (i ≡ j) ⊎ (i ≢ j) → AtMost (cell_at d news i j) (capped (tight (evened p) i j))
        by true e t g (inl s) = diagonal e s
        by true e t g (inr o) = none (tight_from i j e o)
        by false e true g (inl s) = diagonal (subst (λ u. touched u ≡ true) (sym s) g) s
        by false e true g (inr o) = none (tight_to i j g o)
        by false e false g o =
            let here : tight (evened p) i j ≡ tight (evened q) i j =
            ap (λ x. lesser x (halved (plus (evened p i (bar i)) (evened p (bar j) j)))) (evened_same p q i j (same i j e g))
            ∙ ap (λ x. lesser (evened q i j) (halved (plus x (evened p (bar j) j)))) (evened_same p q i (bar i) (same i (bar i) e (bar_touched k i false e)))
            ∙ ap (λ x. lesser (evened q i j) (halved (plus (evened q i (bar i)) x))) (evened_same p q (bar j) j (same (bar j) j (bar_touched k j false g) g)) in
            let there : cell_at d news i j ≡ capped (tight (evened p) i j) = is i j id jd ∙ forgotten_apart (cell_at d xs) k i j e g ∙ c.is i j id jd ∙ ap capped (sym here) in
            subst (λ b. AtMost (cell_at d news i j) b) there (at_most_same (cell_at d news i j))

-- ---- an exchange

exchange_bar : (k i : ℕ) → exchange k (bar i) ≡ bar (exchange k i)
exchange_bar k i = by ((i / 2) == k) refl
  where
    by : (t : Bool) → ((i / 2) == k) ≡ t → exchange k (bar i) ≡ bar (exchange k i)
    by true e = rw (bar_touched k i true e) (rw e refl)
    by false e = rw (bar_touched k i false e) (rw e refl)

exchange_back : (k i : ℕ) → exchange k (exchange k i) ≡ i
exchange_back k i = by ((i / 2) == k) refl
  where
    by : (t : Bool) → ((i / 2) == k) ≡ t → exchange k (exchange k i) ≡ i
    by true e = rw e (rw (bar_touched k i true e) (bar_bar i))
    by false e = rw e (rw e refl)

exchange_in : (k n i : ℕ) → i < 2 * n → exchange k i < 2 * n
exchange_in k n i h = by ((i / 2) == k)
  where
    by : (t : Bool) → (if t then bar i else i) < 2 * n
    by true = omega arith
    by false = h

exchange_out : (k n i : ℕ) → 2 * n ≤ i → 2 * n ≤ exchange k i
exchange_out k n i h = by ((i / 2) == k)
  where
    by : (t : Bool) → 2 * n ≤ (if t then bar i else i)
    by true = omega arith
    by false = h

all_back : (k : ℕ) (vs : List ℕ) → map (exchange k) (map (exchange k) vs) ≡ vs
all_back k [] = refl
all_back k (v ∷ vs) = ap (λ u. u ∷ map (exchange k) (map (exchange k) vs)) (exchange_back k v) ∙ ap (λ us. v ∷ us) (all_back k vs)

exchanged_closed : (n k : ℕ) (xs news : List (Option ℤ)) → IsClosed (2 * n) (cell_at (2 * n) xs)
    → ((i j : ℕ) → i < 2 * n → j < 2 * n → cell_at (2 * n) news i j ≡ cell_at (2 * n) xs (exchange k i) (exchange k j)) → IsClosed (2 * n) (cell_at (2 * n) news)
exchanged_closed n k xs news c is = record {
  sums = p;
  least = record { each = least; zero = λ i id. c.least.zero (exchange k i) (exchange_in k n i id) };
  halves = λ i id. rw (evened_at i (bar i)) (rw (evened_at (bar i) i) (rw (exchange_bar k i) (c.halves (exchange k i) (exchange_in k n i id))));
  is = λ i j id jd. is i j id jd ∙ c.is (exchange k i) (exchange k j) (exchange_in k n i id) (exchange_in k n j jd) ∙ ap capped (sym (tight_at i j));
}
  where
    p : ℕ → ℕ → Option ℤ
    p i j = c.sums (exchange k i) (exchange k j)

    at : (i j : ℕ) → cell_at (2 * n) news i j ≡ cell_at (2 * n) xs (exchange k i) (exchange k j)
    at i j = by (cases_lt i (2 * n)) (cases_lt j (2 * n))
      where
        by : (i < 2 * n) ⊎ (2 * n ≤ i) → (j < 2 * n) ⊎ (2 * n ≤ j) → cell_at (2 * n) news i j ≡ cell_at (2 * n) xs (exchange k i) (exchange k j)
        by (inl id) (inl jd) = is i j id jd
        by (inl id) (inr g) = cell_column_out (2 * n) news i j g ∙ sym (cell_column_out (2 * n) xs (exchange k i) (exchange k j) (exchange_out k n j g))
        by (inr g) q = cell_row_out (2 * n) news i j g ∙ sym (cell_row_out (2 * n) xs (exchange k i) (exchange k j) (exchange_out k n i g))

    walk : (i j : ℕ) (vs : List ℕ) → walk_sum (cell_at (2 * n) news) i vs j ≡ walk_sum (cell_at (2 * n) xs) (exchange k i) (map (exchange k) vs) (exchange k j)
    walk i j [] = at i j
    walk i j (v ∷ vs) = ap (λ b. plus b (walk_sum (cell_at (2 * n) news) v vs j)) (at i v) ∙ ap (λ b. plus (cell_at (2 * n) xs (exchange k i) (exchange k v)) b) (walk v j vs)

    least : (i j : ℕ) → i < 2 * n → j < 2 * n → IsLeast (cell_at (2 * n) news) i j (p i j)
    least i j id jd =
        let l = c.least.each (exchange k i) (exchange k j) (exchange_in k n i id) (exchange_in k n j jd) in
        record {
          by = map (exchange k) l.by;
          reached = walk i j (map (exchange k) l.by) ∙ ap (λ vs. walk_sum (cell_at (2 * n) xs) (exchange k i) vs (exchange k j)) (all_back k l.by) ∙ l.reached;
          least = λ vs. subst (λ b. AtMost (p i j) b) (sym (walk i j vs)) (l.least (map (exchange k) vs));
        }

    evened_at : (i j : ℕ) → evened p i j ≡ evened c.sums (exchange k i) (exchange k j)
    evened_at i j = by (cases_eq j (bar i))
      where
        by : (j ≡ bar i) ⊎ (j ≢ bar i) → evened p i j ≡ evened c.sums (exchange k i) (exchange k j)
        by (inl s) =
            subst (λ u. evened p i u ≡ evened c.sums (exchange k i) (exchange k u)) (sym s)
            (evened_here p i ∙ ap (λ u. even_down (c.sums (exchange k i) u)) (exchange_bar k i) ∙ sym (evened_here c.sums (exchange k i)) ∙ ap (λ u. evened c.sums (exchange k i) u) (sym (exchange_bar k i)))
        by (inr o) =
            let other : exchange k j ≢ bar (exchange k i) = λ s. o (sym (exchange_back k j) ∙ ap (exchange k) (s ∙ sym (exchange_bar k i)) ∙ exchange_back k (bar i)) in
            evened_other p i j o ∙ sym (evened_other c.sums (exchange k i) (exchange k j) other)

    tight_at : (i j : ℕ) → tight (evened p) i j ≡ tight (evened c.sums) (exchange k i) (exchange k j)
    tight_at i j =
        ap (λ x. lesser x (halved (plus (evened p i (bar i)) (evened p (bar j) j)))) (evened_at i j)
        ∙ ap (λ x. lesser (evened c.sums (exchange k i) (exchange k j)) (halved (plus x (evened p (bar j) j)))) (evened_at i (bar i) ∙ ap (λ u. evened c.sums (exchange k i) u) (exchange_bar k i))
        ∙ ap (λ x. lesser (evened c.sums (exchange k i) (exchange k j)) (halved (plus (evened c.sums (exchange k i) (bar (exchange k i))) x))) (evened_at (bar j) j ∙ ap (λ u. evened c.sums u (exchange k j)) (exchange_bar k j))

-- ---- a constant along

split_gain : (x y : Option ℤ) (a b c : ℤ) → plus (plus x y) (Some (c -ℤ a)) ≡ plus (plus x (Some (b -ℤ a))) (plus y (Some (c -ℤ b)))
split_gain None y a b c = refl
split_gain (Some x) None a b c = refl
split_gain (Some x) (Some y) a b c = ap (λ (z : ℤ). Some z) (omega (arith, ints))

back_gain : (x y : Option ℤ) (a b : ℤ) → plus (plus x (Some (b -ℤ a))) (plus y (Some (a -ℤ b))) ≡ plus x y
back_gain None y a b = refl
back_gain (Some x) None a b = refl
back_gain (Some x) (Some y) a b = ap (λ (z : ℤ). Some z) (omega (arith, ints))

half_gain : (z a : ℤ) → int_div_euclid (z +ℤ (neg_ℤ a -ℤ a)) (pos 2) ≡ (int_div_euclid z (pos 2) -ℤ a)
half_gain z a = omega (arith, ints, half_low z, half_high z, half_low (z +ℤ (neg_ℤ a -ℤ a)), half_high (z +ℤ (neg_ℤ a -ℤ a)))

even_gain : (x : Option ℤ) (a : ℤ) → even_down (plus x (Some (neg_ℤ a -ℤ a))) ≡ plus (even_down x) (Some (neg_ℤ a -ℤ a))
even_gain None a = refl
even_gain (Some z) a = ap (λ (w : ℤ). Some w) (omega (arith, ints, half_gain z a))

both_half : (z a b : ℤ) → int_div_euclid (z +ℤ ((neg_ℤ a -ℤ a) +ℤ (b -ℤ neg_ℤ b))) (pos 2) ≡ (int_div_euclid z (pos 2) +ℤ (b -ℤ a))
both_half z a b =
    let w = z +ℤ ((neg_ℤ a -ℤ a) +ℤ (b -ℤ neg_ℤ b)) in
    omega (arith, ints, half_low z, half_high z, half_low (z +ℤ ((neg_ℤ a -ℤ a) +ℤ (b -ℤ neg_ℤ b))), half_high (z +ℤ ((neg_ℤ a -ℤ a) +ℤ (b -ℤ neg_ℤ b))))

regroup : (x y a b : ℤ) → ((x +ℤ (neg_ℤ a -ℤ a)) +ℤ (y +ℤ (b -ℤ neg_ℤ b))) ≡ ((x +ℤ y) +ℤ ((neg_ℤ a -ℤ a) +ℤ (b -ℤ neg_ℤ b)))
regroup x y a b = omega (arith, ints)

halved_gain : (x y : Option ℤ) (a b : ℤ) → halved (plus (plus x (Some (neg_ℤ a -ℤ a))) (plus y (Some (b -ℤ neg_ℤ b)))) ≡ plus (halved (plus x y)) (Some (b -ℤ a))
halved_gain None y a b = refl
halved_gain (Some x) None a b = refl
halved_gain (Some x) (Some y) a b = ap (λ (z : ℤ). Some (int_div_euclid z (pos 2))) (regroup x y a b) ∙ ap (λ (z : ℤ). Some z) (both_half (x +ℤ y) a b)

lesser_gain : (x y : Option ℤ) (g : ℤ) → lesser (plus x (Some g)) (plus y (Some g)) ≡ plus (lesser x y) (Some g)
lesser_gain None y g = refl
lesser_gain (Some x) None g = refl
lesser_gain (Some x) (Some y) g = by (int_lt y x) refl (int_lt (y +ℤ g) (x +ℤ g)) refl
  where
    by : (s : Bool) → int_lt y x ≡ s → (t : Bool) → int_lt (y +ℤ g) (x +ℤ g) ≡ t → (if t then Some (y +ℤ g) else Some (x +ℤ g)) ≡ plus (if s then Some y else Some x) (Some g)
    by true e true f = refl
    by true e false f = absurd (omega (arith, ints, e, f))
    by false e true f = absurd (omega (arith, ints, e, f))
    by false e false f = refl

-- a cap that is a number above -2^66 is the bound itself
inside_same : (t : Option ℤ) → IsInside (capped t) → capped t ≡ t
inside_same None h = refl
inside_same (Some z) h = by (int_lt (pos (2 ^ 66)) z) (int_lt z (negsuc (2 ^ 66 - 1))) h
  where
    by : (s t : Bool) → IsInside (if s then None else (if t then Some (negsuc (2 ^ 66 - 1)) else Some z)) → (if s then None else (if t then Some (negsuc (2 ^ 66 - 1)) else Some z)) ≡ Some z
    by true t h = absurd h
    by false true h = absurd (omega (arith, ints, h))
    by false false h = refl

gain_none : (x : Option ℤ) (a b : ℤ) → a ≡ b → plus x (Some (b -ℤ a)) ≡ x
gain_none None a b e = refl
gain_none (Some x) a b e = ap (λ (z : ℤ). Some z) (omega (arith, ints, e))

equal_or : (a b : ℤ) → (a ≡ b) ⊎ (a ≢ b)
equal_or a b = by (int_lt a b) refl (int_lt b a) refl
  where
    by : (s : Bool) → int_lt a b ≡ s → (t : Bool) → int_lt b a ≡ t → (a ≡ b) ⊎ (a ≢ b)
    by true e t f = inr (λ s. absurd (omega (arith, ints, e, s)))
    by false e true f = inr (λ s. absurd (omega (arith, ints, f, s)))
    by false e false f = inl (omega (arith, ints, e, f))

gained_closed : (d n : ℕ) (xs news : List (Option ℤ)) (g : ℕ → ℤ) → d ≡ 2 * n → IsMatrix d news → IsClosed d (cell_at d xs) → ((i : ℕ) → g (bar i) ≡ neg_ℤ (g i))
    → ((i j : ℕ) → i < d → j < d → g i ≢ g j → IsInside (cell_at d xs i j))
    → ((i j : ℕ) → i < d → j < d → cell_at d news i j ≡ capped (plus (cell_at d xs i j) (Some (g j -ℤ g i)))) → IsClosed d (cell_at d news)
gained_closed d n xs news g pairs m c turned inside is =
    closed_over d n news p pairs m (record {
      walks = λ i j vs id jd. at_most_trans _ _ _ (plus_le _ _ _ _ ((c.least.each i j id jd).least vs) (at_most_same (Some (g j -ℤ g i)))) (walk i j vs);
      zero = λ i id. subst (λ b. AtMost (Some (pos 0)) b) (sym (gain_none (q i i) (g i) (g i) refl ∙ c.least.zero i id)) (at_most_same (Some (pos 0)));
      halves = λ i id. subst (λ b. AtMost (Some (pos 0)) b) (sym (ap (λ b. plus b (evened p (bar i) i)) (evened_at i (bar i)) ∙ ap (λ b. plus (plus (evened q i (bar i)) (Some (g (bar i) -ℤ g i))) b) (evened_at (bar i) i) ∙ back_gain (evened q i (bar i)) (evened q (bar i) i) (g i) (g (bar i)))) (c.halves i id);
      each = each;
    })
  where
    q : ℕ → ℕ → Option ℤ
    q = c.sums

    p : ℕ → ℕ → Option ℤ
    p i j = plus (q i j) (Some (g j -ℤ g i))

    at : (i j : ℕ) → AtMost (plus (cell_at d xs i j) (Some (g j -ℤ g i))) (cell_at d news i j)
    at i j = by (cases_lt i d) (cases_lt j d)
      where
        by : (i < d) ⊎ (d ≤ i) → (j < d) ⊎ (d ≤ j) → AtMost (plus (cell_at d xs i j) (Some (g j -ℤ g i))) (cell_at d news i j)
        by (inl id) (inl jd) = rw (is i j id jd) (at_most_capped (plus (cell_at d xs i j) (Some (g j -ℤ g i))))
        by (inl id) (inr h) = rw (cell_column_out d news i j h) (at_most_none (plus (cell_at d xs i j) (Some (g j -ℤ g i))))
        by (inr h) s = rw (cell_row_out d news i j h) (at_most_none (plus (cell_at d xs i j) (Some (g j -ℤ g i))))

    walk : (i j : ℕ) (vs : List ℕ) → AtMost (plus (walk_sum (cell_at d xs) i vs j) (Some (g j -ℤ g i))) (walk_sum (cell_at d news) i vs j)
    walk i j [] = at i j
    walk i j (v ∷ vs) =
        subst (λ b. AtMost b (plus (cell_at d news i v) (walk_sum (cell_at d news) v vs j))) (sym (split_gain (cell_at d xs i v) (walk_sum (cell_at d xs) v vs j) (g i) (g v) (g j)))
        (plus_le _ _ _ _ (at i v) (walk v j vs))

    own : (x : Option ℤ) (i : ℕ) → plus x (Some (g (bar i) -ℤ g i)) ≡ plus x (Some (neg_ℤ (g i) -ℤ g i))
    own x i = ap (λ z. plus x (Some (z -ℤ g i))) (turned i)

    back : (x : Option ℤ) (j : ℕ) → plus x (Some (g j -ℤ g (bar j))) ≡ plus x (Some (g j -ℤ neg_ℤ (g j)))
    back x j = ap (λ z. plus x (Some (g j -ℤ z))) (turned j)

    evened_at : (i j : ℕ) → evened p i j ≡ plus (evened q i j) (Some (g j -ℤ g i))
    evened_at i j = by (cases_eq j (bar i))
      where
        by : (j ≡ bar i) ⊎ (j ≢ bar i) → evened p i j ≡ plus (evened q i j) (Some (g j -ℤ g i))
        by (inl s) =
            subst (λ u. evened p i u ≡ plus (evened q i u) (Some (g u -ℤ g i))) (sym s)
            (evened_here p i ∙ ap even_down (own (q i (bar i)) i) ∙ even_gain (q i (bar i)) (g i) ∙ sym (own (even_down (q i (bar i))) i) ∙ ap (λ b. plus b (Some (g (bar i) -ℤ g i))) (sym (evened_here q i)))
        by (inr o) = evened_other p i j o ∙ ap (λ b. plus b (Some (g j -ℤ g i))) (sym (evened_other q i j o))

    tight_at : (i j : ℕ) → tight (evened p) i j ≡ plus (tight (evened q) i j) (Some (g j -ℤ g i))
    tight_at i j =
        ap (λ x. lesser x (halved (plus (evened p i (bar i)) (evened p (bar j) j)))) (evened_at i j)
        ∙ ap (λ x. lesser (plus (evened q i j) (Some (g j -ℤ g i))) (halved (plus x (evened p (bar j) j)))) (evened_at i (bar i) ∙ own (evened q i (bar i)) i)
        ∙ ap (λ x. lesser (plus (evened q i j) (Some (g j -ℤ g i))) (halved (plus (plus (evened q i (bar i)) (Some (neg_ℤ (g i) -ℤ g i))) x))) (evened_at (bar j) j ∙ back (evened q (bar j) j) j)
        ∙ ap (λ x. lesser (plus (evened q i j) (Some (g j -ℤ g i))) x) (halved_gain (evened q i (bar i)) (evened q (bar j) j) (g i) (g j))
        ∙ lesser_gain (evened q i j) (halved (plus (evened q i (bar i)) (evened q (bar j) j))) (g j -ℤ g i)

    each : (i j : ℕ) → i < d → j < d → AtMost (cell_at d news i j) (capped (tight (evened p) i j))
    each i j id jd = subst (λ b. AtMost (cell_at d news i j) b) (by (equal_or (g i) (g j))) (at_most_same (cell_at d news i j))
      where
        t : Option ℤ
        t = tight (evened q) i j

        by : (g i ≡ g j) ⊎ (g i ≢ g j) → cell_at d news i j ≡ capped (tight (evened p) i j)
        by (inl s) =
            is i j id jd ∙ ap capped (gain_none (cell_at d xs i j) (g i) (g j) s) ∙ ap capped (c.is i j id jd) ∙ capped_same (capped t) (capped_near t)
            ∙ ap capped (sym (gain_none t (g i) (g j) s)) ∙ ap capped (sym (tight_at i j))
        by (inr o) =
            let here : cell_at d xs i j ≡ t = c.is i j id jd ∙ inside_same t (subst IsInside (c.is i j id jd) (inside i j id jd o)) in
            is i j id jd ∙ ap (λ b. capped (plus b (Some (g j -ℤ g i)))) here ∙ ap capped (sym (tight_at i j))

-- ---- as laws of octagons

-- the closing of cells in rows of a number of places that is equal
moved_closed : (c : Octagon) (n : ℕ) → c.vars ≡ n → IsClosed (2 * n) (cell_at (2 * n) c.cells) → IsClosed (2 * c.vars) (entry c)
moved_closed c n e h = subst (λ v. IsClosed (2 * v) (cell_at (2 * v) c.cells)) (sym e) h

each_at : (n : ℕ) (f : ℕ → ℕ → Option ℤ) (c : Octagon) → HasEntries n f c → (i j : ℕ) → i < 2 * n → j < 2 * n → cell_at (2 * n) c.cells i j ≡ f i j
each_at n f c h i j id jd = subst (λ v. cell_at (2 * v) c.cells i j ≡ f i j) h.vars (h.each i j id jd)

matrix_at : (c : Octagon) (n : ℕ) → IsOctagon c → c.vars ≡ n → IsMatrix (2 * n) c.cells
matrix_at c n h e = subst (λ v. IsMatrix (2 * v) c.cells) e h.whole

joined_stay : (a b c : Octagon) → IsOctagon c → IsClosed (2 * a.vars) (entry a) → IsClosed (2 * b.vars) (entry b) → b.vars ≡ a.vars → HasEntries a.vars (λ i j. greater (entry a i j) (entry b i j)) c → IsClosed (2 * c.vars) (entry c)
joined_stay a b c o x y v h =
    moved_closed c a.vars h.vars
    (joined_closed (2 * a.vars) a.vars a.cells b.cells c.cells refl (matrix_at c a.vars o h.vars) x (subst (λ n. IsClosed (2 * n) (cell_at (2 * n) b.cells)) v y)
    (λ i j id jd. each_at a.vars _ c h i j id jd ∙ ap (λ n. greater (entry a i j) (cell_at (2 * n) b.cells i j)) v))

pub closed_stay : ClosedStayClosed
closed_stay = record {
  joined = joined_stay;
  forgotten = λ a c k o x h. moved_closed c a.vars h.vars (forgotten_closed (2 * a.vars) a.vars k a.cells c.cells refl (matrix_at c a.vars o h.vars) x (each_at a.vars _ c h));
  exchanged = λ a c k o x h. moved_closed c a.vars h.vars (exchanged_closed a.vars k a.cells c.cells x (each_at a.vars _ c h));
  gained = λ a c g o x t inside h. moved_closed c a.vars h.vars (gained_closed (2 * a.vars) a.vars a.cells c.cells g refl (matrix_at c a.vars o h.vars) x t inside (each_at a.vars _ c h));
}
