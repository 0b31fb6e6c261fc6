-- The closing by places is that by walks.
use Rattle.std.specs.Prelude.{◌≡◌, ◌⊎◌, ℕ, zero, suc, ◌*◌, ◌<◌, ◌≤◌, ◌^◌, Bool, true, false, ◌||◌, if◌then◌else◌, ℤ, pos, length, Option, Some, None}
use Rattle.std.proofs.Common.{arith, refl, ap, sym, subst, inl, inr, ◌∙◌}
use Rattle.std.proofs.lemmas.Bool.{cases_lt}
use Rattle.pk_octmat.specs.Bounds.{capped, is_negative}
use Rattle.pk_octmat.specs.Octagon.{Octagon, entry, cell_at, octagon_of, IsMatrix, IsOctagon, HasEntries}
use Rattle.pk_octmat.specs.Shapes.{left_of}
use Rattle.pk_octmat.specs.declared.shape.Shape.{Shape}
use Rattle.pk_octmat.specs.declared.shape.Shape.TheVariants.{Kept, Empty}
use Rattle.pk_octmat.proofs.Tabled.{tabled_length, tabled_entry, octagon_one}
use Rattle.pk_octclose.specs.Walks.{relaxed, HasLeastSums, HasNegativeCycle}
use Rattle.pk_octclose.specs.Closing.{evened, there_and_back, tight, IsClosing, IsEmpty, KeepsPoints}
use Rattle.pk_octclose.proofs.Walks.{Below, Through, IsWith, through_none, through_more}
use Rattle.pk_octclose.proofs.Sums.{negative_from, cycle_from, least_from}
use Rattle.pk_octclose.proofs.Closed.{closing_matrix, closing_points}
use Rattle.pk_octclose.proofs.Members.{empty_none}
use Rattle.pk_octclose.proofs.Again.{closings_same, closing_not_empty}
use Rattle.pk_octclose.specs.Places.{some_negative, through_place, sums_through, tightened, closing_of, ClosingIsRight}

-- ---- negative bounds

no_negative : (f : ℕ → Option ℤ) (n i : ℕ) → some_negative f n ≡ false → i < n → is_negative (f i) ≡ false
no_negative f zero i e h = absurd (omega arith)
no_negative f (suc n) i e h = by (is_negative (f n)) refl e (cases_lt i n) (λ g l. no_negative f n i g l)
  where
    by : (b : Bool) → is_negative (f n) ≡ b → (b || some_negative f n) ≡ false → (i < n) ⊎ (n ≤ i) → (some_negative f n ≡ false → i < n → is_negative (f i) ≡ false) → is_negative (f i) ≡ false
    by true g e s ih = absurd (cc)
    by false g e (inl l) ih = ih e l
    by false g e (inr l) ih = let same : n ≡ i = omega arith in subst (λ k. is_negative (f k) ≡ false) same g

record NegativeAmong (f : ℕ → Option ℤ) (n : ℕ) : Type 0 where
  at : ℕ
  place : at < n
  negative : is_negative (f at) ≡ true

one_negative : (f : ℕ → Option ℤ) (n : ℕ) → some_negative f n ≡ true → NegativeAmong f n
one_negative f zero e = absurd (cc)
one_negative f (suc n) e = by (is_negative (f n)) refl e (λ g. one_negative f n g)
  where
    by : (b : Bool) → is_negative (f n) ≡ b → (b || some_negative f n) ≡ true → (some_negative f n ≡ true → NegativeAmong f n) → NegativeAmong f (suc n)
    by true g e ih = record { at = n; place = omega arith; negative = g }
    by false g e ih = let a = ih e in record { at = a.at; place = omega (arith, a.place); negative = a.negative }

-- ---- places

-- what has been reached after k places
abbrev Stands : ℕ → (ℕ → ℕ → Option ℤ) → ℕ → Option (ℕ → ℕ → Option ℤ) → Type 0
Stands d e k None = HasNegativeCycle e
Stands d e k (Some f) = Through d e f (Below k)

one_more : (k : ℕ) → IsWith (Below k) k (Below (suc k))
one_more k = record { old = λ p h. omega arith; new = omega arith; only = λ p h. by p h (cases_lt p k) }
  where
    by : (p : ℕ) → p < suc k → (p < k) ⊎ (k ≤ p) → (p < k) ⊎ (p ≡ k)
    by p h (inl l) = inl l
    by p h (inr g) = inr (omega arith)

place_through : (d : ℕ) (e : ℕ → ℕ → Option ℤ) (k : ℕ) → k < d → (o : Option (ℕ → ℕ → Option ℤ)) → Stands d e k o → Stands d e (suc k) (through_place d k o)
place_through d e k kd None h = h
place_through d e k kd (Some f) h = by (some_negative (λ i. relaxed f k i i) d) refl
  where
    by : (b : Bool) → some_negative (λ i. relaxed f k i i) d ≡ b → Stands d e (suc k) (if b then None else Some (relaxed f k))
    by true g =
        let a = one_negative (λ i. relaxed f k i i) d g in
        cycle_from d e f (relaxed f k) k h kd (λ i j id jd. refl) (record { at = a.at; place = a.place; negative = a.negative })
    by false g = through_more d e f (relaxed f k) (Below k) k (Below (suc k)) h (one_more k) kd (λ i j id jd. refl) (λ i id. negative_from (relaxed f k i i) (no_negative (λ i. relaxed f k i i) d i g id))

stands : (d : ℕ) (e : ℕ → ℕ → Option ℤ) → ((i : ℕ) → i < d → e i i ≡ Some (pos 0)) → (k : ℕ) → k ≤ d → Stands d e k (sums_through d e k)
unfolding sums_through
stands d e z zero kd = through_none d e (Below 0) (λ p l. omega arith) z
stands d e z (suc k) kd = place_through d e k (omega arith) (sums_through d e k) (stands d e z k (omega arith))

-- ---- closing

-- what the closing is
record Closes (m : Octagon) (r : Octagon) : Type 0 where
  closing : IsClosing (2 * m.vars) (entry m) (entry r)
  vars : r.vars ≡ m.vars
  size : length r.cells ≡ (2 * m.vars) * (2 * m.vars)

abbrev Gives : Octagon → Option Octagon → Type 0
Gives m None = IsEmpty (2 * m.vars) (entry m)
Gives m (Some r) = Closes m r

gives : (m : Octagon) (o : Option (ℕ → ℕ → Option ℤ)) → Stands (2 * m.vars) (entry m) (2 * m.vars) o → Gives m (tightened m.vars o)
gives m None h = inl h
gives m (Some f) h = by (some_negative (there_and_back (evened f)) (2 * m.vars)) refl
  where
    least : HasLeastSums (2 * m.vars) (entry m) f
    least = least_from (2 * m.vars) m.cells f (2 * m.vars) h (omega arith) (omega arith)

    by : (b : Bool) → some_negative (there_and_back (evened f)) (2 * m.vars) ≡ b → Gives m (if b then None else Some (octagon_of m.vars (λ i j. capped (tight (evened f) i j))))
    by true g =
        let a = one_negative (there_and_back (evened f)) (2 * m.vars) g in
        inr (record { sums = f; least = least; at = a.at; place = a.place; negative = a.negative })
    by false g = record {
      closing =
          record {
            sums = f;
            least = least;
            halves = λ i id. negative_from (there_and_back (evened f) i) (no_negative (there_and_back (evened f)) (2 * m.vars) i g id);
            is = λ i j id jd. tabled_entry (2 * m.vars) (λ i j. capped (tight (evened f) i j)) i j id jd;
          };
      vars = refl;
      size = tabled_length (2 * m.vars) (λ i j. capped (tight (evened f) i j));
    }

closing_gives : (m : Octagon) → IsOctagon m → Gives m (closing_of m)
unfolding closing_of
closing_gives m h = gives m (sums_through (2 * m.vars) (entry m) (2 * m.vars)) (stands (2 * m.vars) (entry m) h.whole.coherent.zero (2 * m.vars) (omega arith))

closed_is : (m r : Octagon) → IsOctagon m → closing_of m ≡ Some r → Closes m r
closed_is m r h e = subst (Gives m) e (closing_gives m h)

closed_octagon : (m r : Octagon) → IsOctagon m → Closes m r → IsOctagon r
closed_octagon m r h c =
    let d = 2 * m.vars in
    let whole : IsMatrix d r.cells = closing_matrix d m.vars m.cells r.cells refl h.whole c.size (subst (λ v. IsClosing d (entry m) (cell_at (2 * v) r.cells)) c.vars c.closing) in
    record { few = subst (λ v. v < 2 ^ 31) (sym c.vars) h.few; whole = subst (λ v. IsMatrix (2 * v) r.cells) (sym c.vars) whole }

-- ---- one matrix for each closing
kept_is : (m n : Octagon) → IsOctagon m → IsOctagon n → n.vars ≡ m.vars → IsClosing (2 * m.vars) (entry m) (entry n) → Some n ≡ closing_of m
kept_is m n h g v c = by (closing_of m) refl
  where
    by : (o : Option Octagon) → closing_of m ≡ o → Some n ≡ closing_of m
    by None e = absurd (closing_not_empty (2 * m.vars) m.vars m.cells (entry n) refl c (subst (Gives m) e (closing_gives m h)))
    by (Some r) e =
        let is = closed_is m r h e in
        let each : HasEntries r.vars (entry r) n = record {
          vars = v ∙ sym is.vars;
          each = λ i j id jd. closings_same (2 * m.vars) m.vars (entry m) (entry n) (entry r) refl c is.closing i j (subst (λ w. i < 2 * w) is.vars id) (subst (λ w. j < 2 * w) is.vars jd);
        } in
        let same : n ≡ r = octagon_one n r g (closed_octagon m r h is) each in
        ap Some same ∙ sym e

empty_is : (m : Octagon) → IsOctagon m → IsEmpty (2 * m.vars) (entry m) → None ≡ closing_of m
empty_is m h c = by (closing_of m) refl
  where
    by : (o : Option Octagon) → closing_of m ≡ o → None ≡ closing_of m
    by None e = sym e
    by (Some r) e =
        let is = closed_is m r h e in
        absurd (closing_not_empty (2 * m.vars) m.vars m.cells (entry r) refl is.closing c)

points : (m r : Octagon) → IsOctagon m → Closes m r → KeepsPoints (entry m) (entry r)
points m r h c =
    subst (λ v. KeepsPoints (entry m) (cell_at (2 * v) r.cells)) (sym c.vars)
    (closing_points (2 * m.vars) m.vars m.cells r.cells refl h.whole (subst (λ v. IsClosing (2 * m.vars) (entry m) (cell_at (2 * v) r.cells)) c.vars c.closing))

pub closing_right : ClosingIsRight
closing_right = record {
  some = λ m r h e. (closed_is m r h e).closing;
  octagon = λ m r h e. closed_octagon m r h (closed_is m r h e);
  vars = λ m r h e. (closed_is m r h e).vars;
  points = λ m r h e. points m r h (closed_is m r h e);
  none = λ m h e. subst (Gives m) e (closing_gives m h);
  nothing = λ m x h e p. empty_none (2 * m.vars) m.vars (entry m) refl (subst (Gives m) e (closing_gives m h)) x p;
  again = λ m h c. sym (kept_is m m h h refl c);
}

-- what is left of a matrix that was closed
pub close_is : (s : Shape) (m n : Octagon) → IsOctagon m → IsOctagon n → n.vars ≡ m.vars → (s ≡ Kept → IsClosing (2 * m.vars) (entry m) (entry n)) → (s ≡ Empty → IsEmpty (2 * m.vars) (entry m)) → left_of s n ≡ closing_of m
close_is Kept m n h g v k e = kept_is m n h g v (k refl)
close_is Empty m n h g v k e = empty_is m h (e refl)
