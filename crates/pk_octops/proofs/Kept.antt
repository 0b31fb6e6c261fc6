-- What is made of matrices is a matrix, and what changes nothing.
use Rattle.std.specs.Prelude.{◌≡◌, ◌≢◌, ◌⊎◌, ℕ, ◌<◌, ◌≤◌, ◌*◌, ◌/◌, ◌^◌, ◌==◌, ◌||◌, Bool, true, false, if◌then◌else◌, ℤ, pos, neg_ℤ, ◌+ℤ◌, ◌-ℤ◌, ◌≤ℤ◌, int_lt, Option, Some, None}
use Rattle.std.proofs.Common.{◌∙◌, ap, refl, sym, subst, arith, inl, inr}
use Rattle.std.proofs.lemmas.Bool.{cases_lt}
use Rattle.std.proofs.lemmas.Bool.Decides.{nat_tests}
use Rattle.std.proofs.lemmas.Int.{ints}
use Rattle.pk_octmat.specs.Bounds.{AtMost, IsNear, capped, greater, is_at_most, lesser, plus}
use Rattle.pk_octmat.specs.Octagon.{Octagon, entry, bar, side, top_bound, written, forgotten, octagon_of, HasEntries, IsOctagon, Meets}
use Rattle.pk_octmat.specs.Laws.{AreBounds}
use Rattle.pk_octmat.proofs.Bars.{bar_other, side_bar}
use Rattle.pk_octmat.proofs.Cells.{cell_row_out, cell_column_out}
use Rattle.pk_octmat.proofs.Matrices.{top_near, top_same, top_turned}
use Rattle.pk_octmat.proofs.Points.{capped_near, capped_same}
use Rattle.pk_octmat.proofs.Tabled.{octagon_entries, octagon_from, octagon_is}
use Rattle.pk_octmat.proofs.Tropical.{at_most_none, at_most_same, at_most_trans, lesser_left, lesser_one, lesser_right}
use Rattle.pk_octmat.proofs.Written.{IsPlace, is_place, written_first, written_second, written_none}
use Rattle.pk_octops.specs.Assigns.{assigned, bound_to, gain, moved, source}
use Rattle.pk_octops.specs.Guards.{IsGuard, Obeys, bound_of, guard_of, guarded, lowered}
use Rattle.pk_octops.specs.Laws.{ValuesKeep}
use Rattle.pk_octops.specs.Tables.{IsBelow, join_of, narrowed, narrowing_of, widened, widening_of}
use Rattle.pk_octops.proofs.Along.{moved_turned, moved_zero}
use Rattle.pk_octops.proofs.Pointwise.{greater_near, not_at_most, widened_near, narrowed_near}
use Rattle.pk_octops.proofs.Sound.{widened_left, widened_right}

-- ---- bounds that make a matrix

bounds_of : (m : Octagon) → IsOctagon m → AreBounds m.vars (entry m)
bounds_of m h = record { few = h.few; zero = h.whole.coherent.zero; turned = λ i j id jd. h.whole.coherent.turned i j; near = λ i j id jd. h.whole.near i j }

pointwise_bounds : (f : Option ℤ → Option ℤ → Option ℤ) → f (Some (pos 0)) (Some (pos 0)) ≡ Some (pos 0) → ((a b : Option ℤ) → IsNear (2 ^ 66) a → IsNear (2 ^ 66) b → IsNear (2 ^ 66) (f a b))
    → (n : ℕ) (e g : ℕ → ℕ → Option ℤ) → AreBounds n e → AreBounds n g → AreBounds n (λ i j. f (e i j) (g i j))
pointwise_bounds f zero near n e g h k = record {
  few = h.few;
  zero = λ i id. ap (λ s. f s (g i i)) (h.zero i id) ∙ ap (λ s. f (Some (pos 0)) s) (k.zero i id) ∙ zero;
  turned = λ i j id jd. ap (λ s. f s (g i j)) (h.turned i j id jd) ∙ ap (λ s. f (e (bar j) (bar i)) s) (k.turned i j id jd);
  near = λ i j id jd. near (e i j) (g i j) (h.near i j id jd) (k.near i j id jd);
}

both_octagon : (f : Option ℤ → Option ℤ → Option ℤ) → f (Some (pos 0)) (Some (pos 0)) ≡ Some (pos 0) → ((a b : Option ℤ) → IsNear (2 ^ 66) a → IsNear (2 ^ 66) b → IsNear (2 ^ 66) (f a b))
    → (a b : Octagon) → IsOctagon a → IsOctagon b → b.vars ≡ a.vars → IsOctagon (octagon_of a.vars (λ i j. f (entry a i j) (entry b i j)))
both_octagon f zero near a b h k v = octagon_from a.vars _ (pointwise_bounds f zero near a.vars (entry a) (entry b) (bounds_of a h) (subst (λ n. AreBounds n (entry b)) v (bounds_of b k)))

written_bounds : (n : ℕ) (e : ℕ → ℕ → Option ℤ) (i j : ℕ) (b : Option ℤ) → AreBounds n e → i ≢ j → IsNear (2 ^ 66) b → AreBounds n (written e i j b)
written_bounds n e i j b h ne near = record {
  few = h.few;
  zero = λ a ad. written_none e i j b a a (λ s. ne (omega (arith, s.0, s.1))) (λ s. ne (omega (arith, s.0, s.1))) ∙ h.zero a ad;
  turned = λ a c ad cd. turned a c ad cd (is_place a c i j) (is_place a c (bar j) (bar i));
  near = λ a c ad cd. close a c ad cd (is_place a c i j) (is_place a c (bar j) (bar i));
}
  where
    turned : (a c : ℕ) → a < 2 * n → c < 2 * n → IsPlace a c i j ⊎ (IsPlace a c i j → ⊥) → IsPlace a c (bar j) (bar i) ⊎ (IsPlace a c (bar j) (bar i) → ⊥) → written e i j b a c ≡ written e i j b (bar c) (bar a)
    turned a c ad cd (inl s) t = written_first e i j b a c s ∙ sym (written_second e i j b (bar c) (bar a) (ap bar s.1, ap bar s.0))
    turned a c ad cd (inr k) (inl t) = written_second e i j b a c t ∙ sym (written_first e i j b (bar c) (bar a) (omega (arith, t.1), omega (arith, t.0)))
    turned a c ad cd (inr k) (inr l) =
        written_none e i j b a c k l ∙ h.turned a c ad cd
        ∙ sym (written_none e i j b (bar c) (bar a) (λ s. l (omega (arith, s.1), omega (arith, s.0))) (λ s. k (omega (arith, s.1), omega (arith, s.0))))

    close : (a c : ℕ) → a < 2 * n → c < 2 * n → IsPlace a c i j ⊎ (IsPlace a c i j → ⊥) → IsPlace a c (bar j) (bar i) ⊎ (IsPlace a c (bar j) (bar i) → ⊥) → IsNear (2 ^ 66) (written e i j b a c)
    close a c ad cd (inl s) t = rw (written_first e i j b a c s) near
    close a c ad cd (inr k) (inl t) = rw (written_second e i j b a c t) near
    close a c ad cd (inr k) (inr l) = rw (written_none e i j b a c k l) (h.near a c ad cd)

same_half : (i : ℕ) → bar i / 2 ≡ i / 2
same_half i = omega arith

bar_touched : (k i : ℕ) (t : Bool) → ((i / 2) == k) ≡ t → ((bar i / 2) == k) ≡ t
bar_touched k i t h = rw (same_half i) h

forgotten_bounds : (n k : ℕ) (e : ℕ → ℕ → Option ℤ) → AreBounds n e → AreBounds n (forgotten e k)
forgotten_bounds n k e h = record { few = h.few; zero = zero; turned = turned; near = near }
  where
    zero : (i : ℕ) → i < 2 * n → forgotten e k i i ≡ Some (pos 0)
    zero i id = by ((i / 2) == k)
      where
        by : (s : Bool) → (if s || s then top_bound i i else e i i) ≡ Some (pos 0)
        by true = top_same i
        by false = h.zero i id

    turned : (i j : ℕ) → i < 2 * n → j < 2 * n → forgotten e k i j ≡ forgotten e k (bar j) (bar i)
    turned i j id jd = by ((i / 2) == k) refl ((j / 2) == k) refl
      where
        by : (s : Bool) → ((i / 2) == k) ≡ s → (t : Bool) → ((j / 2) == k) ≡ t → forgotten e k i j ≡ forgotten e k (bar j) (bar i)
        by true p true q = rw p (rw (bar_touched k j true q) (top_turned i j (bar j) (bar i) refl refl))
        by true p false q = rw p (rw (bar_touched k j false q) (rw (bar_touched k i true p) (top_turned i j (bar j) (bar i) refl refl)))
        by false p true q = rw p (rw q (rw (bar_touched k j true q) (top_turned i j (bar j) (bar i) refl refl)))
        by false p false q = rw p (rw q (rw (bar_touched k j false q) (rw (bar_touched k i false p) (h.turned i j id jd))))

    near : (i j : ℕ) → i < 2 * n → j < 2 * n → IsNear (2 ^ 66) (forgotten e k i j)
    near i j id jd = by ((i / 2) == k) ((j / 2) == k)
      where
        by : (s t : Bool) → IsNear (2 ^ 66) (if s || t then top_bound i j else e i j)
        by true t = top_near i j
        by false true = top_near i j
        by false false = h.near i j id jd

moved_bounds : (m : Octagon) (k t : ℕ) (c : ℤ) → IsOctagon m → AreBounds m.vars (moved (entry m) k t c)
unfolding moved
moved_bounds m k t c h = record {
  few = h.few;
  zero = moved_zero (2 * m.vars) m.vars k t c (entry m) refl h.whole.coherent.zero;
  turned = λ i j id jd. moved_turned k t c (entry m) h.whole.coherent.turned i j;
  near = λ i j id jd. capped_near (plus (entry m (source k t i) (source k t j)) (Some (gain k c j -ℤ gain k c i)));
}

bound_bounds : (m : Octagon) (k t : ℕ) (c : ℤ) → IsOctagon m → ((t / 2) == k) ≡ false → AreBounds m.vars (bound_to (entry m) k t c)
unfolding bound_to
bound_bounds m k t c h e =
    let other : (t / 2) ≢ k = grind (arith, nat_tests) in
    let apart : t ≢ 2 * k = λ s. other (omega (arith, s)) in
    written_bounds m.vars _ (2 * k) t (capped (Some (neg_ℤ c))) (written_bounds m.vars _ t (2 * k) (capped (Some c)) (forgotten_bounds m.vars k (entry m) (bounds_of m h)) apart (capped_near (Some c))) (λ s. apart (sym s)) (capped_near (Some (neg_ℤ c)))

assigned_bounds : (m : Octagon) (k : ℕ) (t : Option ℕ) (c : ℤ) → IsOctagon m → AreBounds m.vars (assigned (entry m) k t c)
assigned_bounds m k None c h = forgotten_bounds m.vars k (entry m) (bounds_of m h)
assigned_bounds m k (Some t) c h = by ((t / 2) == k) refl
  where
    by : (s : Bool) → ((t / 2) == k) ≡ s → AreBounds m.vars (λ i j. if s then moved (entry m) k t c i j else bound_to (entry m) k t c i j)
    by true e = moved_bounds m k t c h
    by false e = bound_bounds m k t c h e

lesser_near : (a b : Option ℤ) → IsNear (2 ^ 66) a → IsNear (2 ^ 66) b → IsNear (2 ^ 66) (lesser a b)
lesser_near a b p q = by (lesser_one a b)
  where
    by : (lesser a b ≡ a) ⊎ (lesser a b ≡ b) → IsNear (2 ^ 66) (lesser a b)
    by (inl e) = rw e p
    by (inr e) = rw e q

lowered_bounds : (m : Octagon) (i j : ℕ) (c : ℤ) → IsOctagon m → i ≢ j → AreBounds m.vars (lowered (entry m) i j c)
lowered_bounds m i j c h ne = written_bounds m.vars (entry m) i j _ (bounds_of m h) ne (lesser_near (entry m i j) (capped (Some c)) (h.whole.near i j) (capped_near (Some c)))

bar_apart : (a b : ℕ) → b ≢ bar a → bar b ≢ a
bar_apart a b n e = n (omega (arith, e))

guarded_bounds : (m : Octagon) (a : ℕ) (b : Option ℕ) (c : ℤ) → IsOctagon m → IsGuard m.vars (Some a) b → AreBounds m.vars (guarded (entry m) (Some a) b c)
guarded_bounds m a None c h g = lowered_bounds m (bar a) a (c +ℤ c) h (bar_other a)
guarded_bounds m a (Some b) c h g = lowered_bounds m (bar b) a c h (bar_apart a b g.2)

guard_octagon : (m r : Octagon) (a b : Option ℕ) (c : ℤ) → IsOctagon m → IsGuard m.vars a b → guard_of m a b c ≡ Some r → IsOctagon r
guard_octagon m r None b c h g e = by (int_lt c (pos 0)) e
  where
    by : (t : Bool) → (if t then None else Some m) ≡ Some r → IsOctagon r
    by true e = absurd (cc)
    by false e = let same : m ≡ r = cc in subst IsOctagon same h
guard_octagon m r (Some a) b c h g e =
    let same : octagon_of m.vars (guarded (entry m) (Some a) b c) ≡ r = cc in
    subst IsOctagon same (octagon_from m.vars (guarded (entry m) (Some a) b c) (guarded_bounds m a b c h g))

-- ---- what changes nothing

greater_same : (a b : Option ℤ) → AtMost b a → greater a b ≡ a
greater_same None b h = refl
greater_same (Some a) None h = absurd h
greater_same (Some a) (Some b) h = by (int_lt a b) refl
  where
    by : (t : Bool) → int_lt a b ≡ t → (if t then Some b else Some a) ≡ Some a
    by true e = absurd (omega (arith, ints, h))
    by false e = refl

widened_same : (h n : Option ℤ) → AtMost n h → widened h n ≡ h
widened_same h n b = by (is_at_most n h) refl
  where
    by : (t : Bool) → is_at_most n h ≡ t → (if t then h else None) ≡ h
    by true e = refl
    by false e = absurd (not_at_most n h e b)

narrowed_same : (h : Option ℤ) → narrowed h h ≡ h
narrowed_same None = refl
narrowed_same (Some z) = refl

join_same : (a b : Octagon) → IsOctagon a → b.vars ≡ a.vars → IsBelow b a → join_of a b ≡ a
join_same a b h v l = sym (octagon_is a.vars _ a h (record { vars = refl; each = λ i j id jd. sym (greater_same (entry a i j) (entry b i j) (l.each i j)) }))

widening_same : (h n : Octagon) → IsOctagon h → n.vars ≡ h.vars → IsBelow n h → widening_of h n ≡ h
widening_same h n o v l = sym (octagon_is h.vars _ h o (record { vars = refl; each = λ i j id jd. sym (widened_same (entry h i j) (entry n i j) (l.each i j)) }))

narrowing_same : (h : Octagon) → IsOctagon h → narrowing_of h h ≡ h
narrowing_same h o = sym (octagon_is h.vars _ h o (record { vars = refl; each = λ i j id jd. sym (narrowed_same (entry h i j)) }))

-- ---- what a widening step is above

below_from : (n : ℕ) (f : ℕ → ℕ → Option ℤ) (a m : Octagon) → a.vars ≡ n → HasEntries n f m → ((i j : ℕ) → AtMost (entry a i j) (f i j)) → IsBelow a m
below_from n f a m v h each = record { each = λ i j. by i j (cases_lt i (2 * n)) (cases_lt j (2 * n)) }
  where
    by : (i j : ℕ) → (i < 2 * n) ⊎ (2 * n ≤ i) → (j < 2 * n) ⊎ (2 * n ≤ j) → AtMost (entry a i j) (entry m i j)
    by i j (inl id) (inl jd) = rw (h.each i j id jd) (each i j)
    by i j (inl id) (inr g) = rw (cell_column_out (2 * m.vars) m.cells i j (omega (arith, h.vars))) (at_most_none (entry a i j))
    by i j (inr g) q = rw (cell_row_out (2 * m.vars) m.cells i j (omega (arith, h.vars))) (at_most_none (entry a i j))

above_held : (h n : Octagon) → IsBelow h (widening_of h n)
above_held h n = below_from h.vars _ h (widening_of h n) refl (octagon_entries h.vars (λ i j. widened (entry h i j) (entry n i j))) (λ i j. widened_left (entry h i j) (entry n i j))

above_next : (h n : Octagon) → n.vars ≡ h.vars → IsBelow n (widening_of h n)
above_next h n v = below_from h.vars _ n (widening_of h n) v (octagon_entries h.vars (λ i j. widened (entry h i j) (entry n i j))) (λ i j. widened_right (entry h i j) (entry n i j))

pub values_kept : ValuesKeep
values_kept = record {
  join_same = join_same;
  widening_same = widening_same;
  narrowing_same = narrowing_same;
  above_held = above_held;
  above_next = above_next;
  below_itself = λ a. record { each = λ i j. at_most_same (entry a i j) };
  join_octagon = both_octagon greater refl greater_near;
  widening_octagon = both_octagon widened refl widened_near;
  narrowing_octagon = both_octagon narrowed refl narrowed_near;
  assignment_octagon = λ m k t c h v s. octagon_from m.vars (assigned (entry m) k t c) (assigned_bounds m k t c h);
  guard_octagon = guard_octagon;
}

-- ---- guards, exactly

pub written_below : (e : ℕ → ℕ → Option ℤ) (i j : ℕ) (b : Option ℤ) (a c : ℕ) → ((i j : ℕ) → e i j ≡ e (bar j) (bar i)) → AtMost b (e i j) → AtMost (written e i j b a c) (e a c)
written_below e i j b a c turned h = by (is_place a c i j) (is_place a c (bar j) (bar i))
  where
    by : IsPlace a c i j ⊎ (IsPlace a c i j → ⊥) → IsPlace a c (bar j) (bar i) ⊎ (IsPlace a c (bar j) (bar i) → ⊥) → AtMost (written e i j b a c) (e a c)
    by (inl s) t = rw (written_first e i j b a c s) (subst (λ q. AtMost b (e q c)) (sym s.0) (subst (λ q. AtMost b (e i q)) (sym s.1) h))
    by (inr k) (inl t) = rw (written_second e i j b a c t) (subst (λ q. AtMost b (e q c)) (sym t.0) (subst (λ q. AtMost b (e (bar j) q)) (sym t.1) (subst (λ z. AtMost b z) (turned i j) h)))
    by (inr k) (inr l) = rw (written_none e i j b a c k l) (at_most_same (e a c))

lowered_exact : (e g : ℕ → ℕ → Option ℤ) (i j : ℕ) (z : ℤ) (x : ℕ → ℤ) → ((i j : ℕ) → e i j ≡ e (bar j) (bar i)) → ((a b : ℕ) → g a b ≡ lowered e i j z a b) → IsNear (2 ^ 66) (Some z) → Meets g x → Meets e x × ((side x j -ℤ side x i) ≤ℤ z)
lowered_exact e g i j z x turned is near m = (
  record { each = λ a b. at_most_trans (Some (side x b -ℤ side x a)) (g a b) (e a b) (m.each a b) (rw (is a b) (written_below e i j (lesser (e i j) (capped (Some z))) a b turned (lesser_left (e i j) (capped (Some z))))) },
  at_most_trans (Some (side x j -ℤ side x i)) (lesser (e i j) (capped (Some z))) (Some z)
      (subst (λ b. AtMost (Some (side x j -ℤ side x i)) b) (is i j ∙ written_first e i j (lesser (e i j) (capped (Some z))) i j (refl, refl)) (m.each i j))
      (subst (λ b. AtMost (lesser (e i j) (capped (Some z))) b) (capped_same (Some z) near) (lesser_right (e i j) (capped (Some z)))),
)

once : (a c : ℤ) → (a -ℤ neg_ℤ a) ≤ℤ (c +ℤ c) → a ≤ℤ c
once a c h = omega (arith, ints, h)

both : (a b c : ℤ) → (a -ℤ neg_ℤ b) ≤ℤ c → (a +ℤ b) ≤ℤ c
both a b c h = omega (arith, ints, h)

pub guard_exact : (m : Octagon) (g : ℕ → ℕ → Option ℤ) (a : ℕ) (b : Option ℕ) (c : ℤ) (x : ℕ → ℤ) → IsOctagon m → ((i j : ℕ) → g i j ≡ guarded (entry m) (Some a) b c i j) → IsNear (2 ^ 66) (Some (bound_of b c)) → Meets g x → Meets (entry m) x × Obeys x (Some a) b c
guard_exact m g a None c x h is near k =
    let both = lowered_exact (entry m) g (bar a) a (c +ℤ c) x h.whole.coherent.turned is near k in
    (both.0, once (side x a) c (subst (λ z. (side x a -ℤ z) ≤ℤ (c +ℤ c)) (side_bar x a) both.1))
guard_exact m g a (Some b) c x h is near k =
    let all = lowered_exact (entry m) g (bar b) a c x h.whole.coherent.turned is near k in
    (all.0, both (side x a) (side x b) c (subst (λ z. (side x a -ℤ z) ≤ℤ c) (side_bar x b) all.1))

-- a matrix that has the bounds after a guard is what the guard gives
pub guard_is : (m n : Octagon) (a : ℕ) (b : Option ℕ) (c : ℤ) → IsOctagon n → n.vars ≡ m.vars → ((i j : ℕ) → entry n i j ≡ guarded (entry m) (Some a) b c i j) → Some n ≡ guard_of m (Some a) b c
guard_is m n a b c h v is = ap (λ (o : Octagon). Some o) (octagon_is m.vars (guarded (entry m) (Some a) b c) n h (record { vars = v; each = λ i j id jd. is i j }))
