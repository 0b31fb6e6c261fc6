-- Bounds under sum, order and the lesser of two.
use Rattle.std.specs.Prelude.{◌≡◌, ℤ, pos, int_lt, Option, Some, None, Bool, true, false, ◌⊎◌, if◌then◌else◌, ◌≤ℤ◌, ◌+ℤ◌, negsuc}
use Rattle.std.proofs.Common.{ap, refl, sym, subst, arith, inl, inr}
use Rattle.std.proofs.lemmas.Int.{ints}
use Rattle.pk_octmat.specs.Bounds.{AtMost, plus, lesser, greater}
use Rattle.std.specs.Int.{int_div_euclid}

pub at_most_same : (a : Option ℤ) → AtMost a a
at_most_same None = tt
at_most_same (Some a) = omega (arith, ints)

pub at_most_none : (a : Option ℤ) → AtMost a None
at_most_none None = tt
at_most_none (Some a) = tt

pub at_most_trans : (a b c : Option ℤ) → AtMost a b → AtMost b c → AtMost a c
at_most_trans None None None p q = tt
at_most_trans None None (Some c) p q = q
at_most_trans None (Some b) None p q = tt
at_most_trans None (Some b) (Some c) p q = p
at_most_trans (Some a) None None p q = tt
at_most_trans (Some a) None (Some c) p q = absurd q
at_most_trans (Some a) (Some b) None p q = tt
at_most_trans (Some a) (Some b) (Some c) p q = omega (arith, ints)

pub at_most_both : (a b : Option ℤ) → AtMost a b → AtMost b a → a ≡ b
at_most_both None None p q = refl
at_most_both None (Some b) p q = absurd p
at_most_both (Some a) None p q = absurd q
at_most_both (Some a) (Some b) p q = ap (λ (z : ℤ). Some z) (omega (arith, ints))

pub plus_le : (a b c d : Option ℤ) → AtMost a c → AtMost b d → AtMost (plus a b) (plus c d)
plus_le a b None d p q = at_most_none (plus a b)
plus_le a b (Some c) None p q = at_most_none (plus a b)
plus_le None b (Some c) (Some d) p q = absurd p
plus_le (Some a) None (Some c) (Some d) p q = absurd q
plus_le (Some a) (Some b) (Some c) (Some d) p q = omega (arith, ints)

pub plus_comm : (a b : Option ℤ) → plus a b ≡ plus b a
plus_comm None None = refl
plus_comm None (Some b) = refl
plus_comm (Some a) None = refl
plus_comm (Some a) (Some b) = ap (λ (z : ℤ). Some z) (omega (arith, ints))

pub plus_assoc : (a b c : Option ℤ) → plus (plus a b) c ≡ plus a (plus b c)
plus_assoc None b c = refl
plus_assoc (Some a) None c = refl
plus_assoc (Some a) (Some b) None = refl
plus_assoc (Some a) (Some b) (Some c) = ap (λ (z : ℤ). Some z) (omega (arith, ints))

pub plus_none : (a : Option ℤ) → plus a None ≡ None
plus_none None = refl
plus_none (Some a) = refl

pub lesser_left : (a b : Option ℤ) → AtMost (lesser a b) a
lesser_left None b = at_most_none b
lesser_left (Some a) None = omega (arith, ints)
lesser_left (Some a) (Some b) = by (int_lt b a) refl
  where
    by : (t : Bool) → int_lt b a ≡ t → AtMost (if t then Some b else Some a) (Some a)
    by true e = omega (arith, ints)
    by false e = omega (arith, ints)

pub lesser_right : (a b : Option ℤ) → AtMost (lesser a b) b
lesser_right None b = at_most_same b
lesser_right (Some a) None = tt
lesser_right (Some a) (Some b) = by (int_lt b a) refl
  where
    by : (t : Bool) → int_lt b a ≡ t → AtMost (if t then Some b else Some a) (Some b)
    by true e = omega (arith, ints)
    by false e = omega (arith, ints)

pub lesser_one : (a b : Option ℤ) → (lesser a b ≡ a) ⊎ (lesser a b ≡ b)
lesser_one None b = inr refl
lesser_one (Some a) None = inl refl
lesser_one (Some a) (Some b) = by (int_lt b a) refl
  where
    by : (t : Bool) → int_lt b a ≡ t → ((if t then Some b else Some a) ≡ Some a) ⊎ ((if t then Some b else Some a) ≡ Some b)
    by true e = inr refl
    by false e = inl refl

-- a bound that is below both is below the lesser
pub lesser_above : (a b c : Option ℤ) → AtMost c a → AtMost c b → AtMost c (lesser a b)
lesser_above a b c p q = by (lesser_one a b)
  where
    by : (lesser a b ≡ a) ⊎ (lesser a b ≡ b) → AtMost c (lesser a b)
    by (inl e) = subst (λ v. AtMost c v) (sym e) p
    by (inr e) = subst (λ v. AtMost c v) (sym e) q

-- adding a bound that is 0 or more
pub plus_more : (a b : Option ℤ) → AtMost (Some (pos 0)) b → AtMost a (plus a b)
plus_more None b p = at_most_none (plus None b)
plus_more (Some a) None p = tt
plus_more (Some a) (Some b) p = omega (arith, ints)

pub plus_zero : (a : Option ℤ) → plus a (Some (pos 0)) ≡ a
plus_zero None = refl
plus_zero (Some a) = ap (λ (z : ℤ). Some z) (omega (arith, ints))

pub greater_left : (a b : Option ℤ) → AtMost a (greater a b)
greater_left None b = tt
greater_left (Some a) None = tt
greater_left (Some a) (Some b) = by (int_lt a b) refl
  where
    by : (t : Bool) → int_lt a b ≡ t → AtMost (Some a) (if t then Some b else Some a)
    by true e = omega (arith, ints)
    by false e = omega (arith, ints)

pub greater_right : (a b : Option ℤ) → AtMost b (greater a b)
greater_right None b = at_most_none b
greater_right (Some a) None = tt
greater_right (Some a) (Some b) = by (int_lt a b) refl
  where
    by : (t : Bool) → int_lt a b ≡ t → AtMost (Some b) (if t then Some b else Some a)
    by true e = omega (arith, ints)
    by false e = omega (arith, ints)

pub half_low : (z : ℤ) → (int_div_euclid z (pos 2) +ℤ int_div_euclid z (pos 2)) ≤ℤ z
half_low (pos a) = omega (arith, ints)
half_low (negsuc a) = omega (arith, ints)

pub half_high : (z : ℤ) → z ≤ℤ (int_div_euclid z (pos 2) +ℤ int_div_euclid z (pos 2) +ℤ pos 1)
half_high (pos a) = omega (arith, ints)
half_high (negsuc a) = omega (arith, ints)
