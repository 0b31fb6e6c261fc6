-- Lowering by ranges keeps it that the same integers meet two octagons.
use Rattle.std.specs.Prelude.{◌≡◌, ◌⊎◌, ℕ, zero, suc, ◌+◌, ◌*◌, ◌<◌, ◌≤◌, ℤ, neg_ℤ, ◌+ℤ◌, ◌-ℤ◌, List, Option, Some, None, IfSome}
use Rattle.std.proofs.Common.{◌∙◌, refl, sym, subst, arith, inl, inr}
use Rattle.std.proofs.lemmas.Bool.{cases_lt}
use Rattle.pk_octmat.specs.Bounds.{AtMost, capped, lesser}
use Rattle.pk_octmat.specs.Octagon.{Octagon, IsOctagon, Meets, bar, entry, side}
use Rattle.pk_octmat.specs.Shapes.{left_of}
use Rattle.pk_octmat.specs.declared.shape.Shape.{Shape}
use Rattle.pk_octmat.proofs.Tabled.{octagon_entries}
use Rattle.pk_octmat.proofs.Tropical.{at_most_trans, lesser_right}
use Rattle.pk_octmat.proofs.Written.{written_first}
use Rattle.pk_octclose.specs.Closing.{IsSmall, KeepsPoints}
use Rattle.pk_octclose.specs.Places.{closing_of}
use Rattle.pk_octclose.proofs.Floyd.{closing_right}
use Rattle.pk_octclose.proofs.Same.{closing_of_points}
use Rattle.pk_octops.specs.Guards.{guarded}
use Rattle.pk_octops.proofs.Along.{lowered_holds}
use Rattle.pk_octops.proofs.Sound.{meets_from}
use Rattle.pk_interval.specs.Ranges.{Range}
use Rattle.pk_value.specs.Known.{Known}
use Rattle.pk_octagons.specs.Packs.{chosen_at}
use Rattle.pk_octagons.specs.Values.{known_at}
use Rattle.pk_octagons.specs.Reduced.{at_most, by_range, by_ranges}
use Rattle.pk_octagons.proofs.Octs.{at_most_falls, at_most_octagon, by_range_falls, by_ranges_octagon, by_ranges_vars}

pub same_points : (e : ℕ → ℕ → Option ℤ) → KeepsPoints e e
same_points e = record { to = λ x p. p; from = λ x p. p }

pub both_points : (e f g : ℕ → ℕ → Option ℤ) → KeepsPoints e f → KeepsPoints f g → KeepsPoints e g
both_points e f g k l = record { to = λ x p. l.to x (k.to x p); from = λ x p. k.from x (l.from x p) }

-- integers that meet a lowered octagon obey the bound
at_most_bound : (m : Octagon) (a : ℕ) (c : ℤ) (x : ℕ → ℤ) → a < 2 * m.vars → Meets (entry (at_most m a c)) x → AtMost (Some (side x a -ℤ side x (bar a))) (capped (Some (c +ℤ c)))
at_most_bound m a c x p q =
    let bound : Option ℤ = lesser (entry m (bar a) a) (capped (Some (c +ℤ c))) in
    let at : entry (at_most m a c) (bar a) a ≡ bound = (octagon_entries m.vars (guarded (entry m) (Some a) None c)).each (bar a) a (omega (arith, p)) p ∙ written_first (entry m) (bar a) a bound (bar a) a (refl, refl) in
    at_most_trans (Some (side x a -ℤ side x (bar a))) bound (capped (Some (c +ℤ c))) (subst (λ o. AtMost (Some (side x a -ℤ side x (bar a))) o) at (q.each (bar a) a)) (lesser_right (entry m (bar a) a) (capped (Some (c +ℤ c))))

at_most_along : (m n : Octagon) (a : ℕ) (c : ℤ) (x : ℕ → ℤ) → IsOctagon m → a < 2 * m.vars → (Meets (entry m) x → Meets (entry n) x) → Meets (entry (at_most m a c)) x → Meets (entry (at_most n a c)) x
at_most_along m n a c x h p to q =
    meets_from n.vars (guarded (entry n) (Some a) None c) (at_most n a c) x (octagon_entries n.vars (guarded (entry n) (Some a) None c))
    (λ i j id jd. lowered_holds (entry n) (bar a) a (c +ℤ c) x (to (at_most_falls m a c x h q)) (at_most_bound m a c x p q) i j)

at_most_points : (m n : Octagon) (a : ℕ) (c : ℤ) → IsOctagon m → IsOctagon n → a < 2 * m.vars → n.vars ≡ m.vars → KeepsPoints (entry m) (entry n) → KeepsPoints (entry (at_most m a c)) (entry (at_most n a c))
at_most_points m n a c h g p v k = record {
  to = λ x. at_most_along m n a c x h p (k.to x);
  from = λ x. at_most_along n m a c x g (omega (arith, p, v)) (k.from x);
}

pub by_range_points : (m n : Octagon) (k : ℕ) (r : Range) → IsOctagon m → IsOctagon n → k < m.vars → n.vars ≡ m.vars → KeepsPoints (entry m) (entry n) → KeepsPoints (entry (by_range m k r)) (entry (by_range n k r))
by_range_points m n k r h g p v keeps =
    at_most_points (at_most m (2 * k) r.hi) (at_most n (2 * k) r.hi) (2 * k + 1) (neg_ℤ r.lo) (at_most_octagon m (2 * k) r.hi h (omega (arith, p))) (at_most_octagon n (2 * k) r.hi g (omega (arith, p, v))) (omega (arith, p)) v
    (at_most_points m n (2 * k) r.hi h g (omega (arith, p)) v keeps)

-- what meets the octagon lowered by all ranges meets it lowered by some
ranges_fall : (l : List ℕ) (vs : List Known) (k n : ℕ) (m : Octagon) (x : ℕ → ℤ) → IsOctagon m → k ≤ n → n ≤ m.vars → Meets (entry (by_ranges l vs n m)) x → Meets (entry (by_ranges l vs k m)) x
ranges_fall l vs k zero m x h p b q = let none : zero ≡ k = omega (arith, p) in subst (λ z. Meets (entry (by_ranges l vs z m)) x) none q
ranges_fall l vs k (suc n) m x h p b q = by (cases_lt k (suc n)) (λ g r. ranges_fall l vs k n m x h g (omega (arith, b)) r)
  where
    by : (k < suc n) ⊎ (suc n ≤ k) → (k ≤ n → Meets (entry (by_ranges l vs n m)) x → Meets (entry (by_ranges l vs k m)) x) → Meets (entry (by_ranges l vs k m)) x
    by (inl g) ih =
        ih (omega (arith, g))
        (by_range_falls (by_ranges l vs n m) n (known_at vs (chosen_at l n)).range x (by_ranges_octagon l vs n m h (omega (arith, b))) (omega (arith, b, by_ranges_vars l vs n m)) q)
    by (inr g) ih = let all : suc n ≡ k = omega (arith, p, g) in subst (λ z. Meets (entry (by_ranges l vs z m)) x) all q

-- where no integers meet it lowered by some, it has no closing lowered by all
pub ranges_none : (l : List ℕ) (vs : List Known) (k n : ℕ) (m : Octagon) → IsOctagon m → k ≤ n → n ≤ m.vars → m.vars ≤ 64 → IsSmall (by_ranges l vs n m) → ((x : ℕ → ℤ) → Meets (entry (by_ranges l vs k m)) x → ⊥) → None ≡ closing_of (by_ranges l vs n m)
ranges_none l vs k n m h p b few small never =
    sym (closing_of_points.none (by_ranges l vs n m) (by_ranges_octagon l vs n m h b) small (subst (λ z. z ≤ 64) (sym (by_ranges_vars l vs n m)) few) (λ x q. never x (ranges_fall l vs k n m x h p b q)))

-- one variable more
pub ranges_more : (l : List ℕ) (vs : List Known) (k : ℕ) (m q : Octagon) → IsOctagon m → IsOctagon q → k < m.vars → q.vars ≡ m.vars → KeepsPoints (entry (by_ranges l vs k m)) (entry q)
    → KeepsPoints (entry (by_ranges l vs (suc k) m)) (entry (by_range q k (known_at vs (chosen_at l k)).range))
ranges_more l vs k m q h g p v keeps =
    by_range_points (by_ranges l vs k m) q k (known_at vs (chosen_at l k)).range (by_ranges_octagon l vs k m h (omega (arith, p))) g (omega (arith, p, by_ranges_vars l vs k m)) (v ∙ sym (by_ranges_vars l vs k m)) keeps

-- all of them: the closing of what the same integers meet
pub ranges_closing : (l : List ℕ) (vs : List Known) (n : ℕ) (m q : Octagon) → IsOctagon m → IsOctagon q → n ≤ m.vars → m.vars ≤ 64 → q.vars ≡ m.vars → IsSmall (by_ranges l vs n m) → IsSmall q → KeepsPoints (entry (by_ranges l vs n m)) (entry q) → closing_of q ≡ closing_of (by_ranges l vs n m)
ranges_closing l vs n m q h g b few v small little keeps =
    sym (closing_of_points.same (by_ranges l vs n m) q (by_ranges_octagon l vs n m h b) g small little (subst (λ z. z ≤ 64) (sym (by_ranges_vars l vs n m)) few) (v ∙ sym (by_ranges_vars l vs n m)) keeps)

-- one variable, closed before or not
pub turn_points : (m q : Octagon) (k : ℕ) (r : Range) → IsOctagon m → k < m.vars → (q ≡ m) ⊎ (closing_of m ≡ Some q) → KeepsPoints (entry (by_range m k r)) (entry (by_range q k r))
turn_points m q k r h p (inl e) = subst (λ o. KeepsPoints (entry (by_range m k r)) (entry (by_range o k r))) (sym e) (same_points (entry (by_range m k r)))
turn_points m q k r h p (inr e) = by_range_points m q k r h (closing_right.octagon m q h e) p (closing_right.vars m q h e) (closing_right.points m q h e)

pub turn_none : (m : Octagon) (k : ℕ) (r : Range) → IsOctagon m → k < m.vars → closing_of m ≡ None → (x : ℕ → ℤ) → Meets (entry (by_range m k r)) x → ⊥
turn_none m k r h p e x q = closing_right.nothing m x h e (by_range_falls m k r x h p q)

-- what is left of q is the closing of w, where they have the same
pub turned_is : (o : Option Shape) (r q w : Octagon) → (IsSmall q → closing_of q ≡ closing_of w) → IfSome o (λ s. left_of s r ≡ closing_of q) → IfSome o (λ s. IsSmall q) → IfSome o (λ s. left_of s r ≡ closing_of w)
turned_is None r q w same h k = tt
turned_is (Some s) r q w same h k = h ∙ same k

-- the same by a range that is the variable's
pub ranges_next : (l : List ℕ) (vs : List Known) (k : ℕ) (m q : Octagon) (r : Range) → IsOctagon m → IsOctagon q → k < m.vars → q.vars ≡ m.vars → KeepsPoints (entry (by_ranges l vs k m)) (entry q) → r ≡ (known_at vs (chosen_at l k)).range
    → KeepsPoints (entry (by_ranges l vs (suc k) m)) (entry (by_range q k r))
ranges_next l vs k m q r h g p v keeps e = subst (λ (s : Range). KeepsPoints (entry (by_ranges l vs (suc k) m)) (entry (by_range q k s))) (sym e) (ranges_more l vs k m q h g p v keeps)
