-- Laws of what is done with matrices, as values.
use Rattle.std.specs.Prelude.{◌≡◌, ℕ, ◌<◌, ◌*◌, ℤ, Option, Some, None}
use Rattle.pk_octmat.specs.Octagon.{Octagon, IsOctagon}
use Rattle.pk_octops.specs.Tables.{IsBelow, join_of, widening_of, narrowing_of}
use Rattle.pk_octops.specs.Guards.{IsGuard, guard_of}
use Rattle.pk_octops.specs.Assigns.{assignment_of}

-- the term of an assignment is a place
abbrev pub IsTerm : ℕ → Option ℕ → Type 0
IsTerm n None = Unit {0}
IsTerm n (Some t) = t < 2 * n

-- What changes nothing, what a widening step is above, and that each result is a matrix over the same variables.
pub record ValuesKeep : Type 0 where
  pub join_same : (a b : Octagon) → IsOctagon a → b.vars ≡ a.vars → IsBelow b a → join_of a b ≡ a
  pub widening_same : (h n : Octagon) → IsOctagon h → n.vars ≡ h.vars → IsBelow n h → widening_of h n ≡ h
  pub narrowing_same : (h : Octagon) → IsOctagon h → narrowing_of h h ≡ h
  pub above_held : (h n : Octagon) → IsBelow h (widening_of h n)
  pub above_next : (h n : Octagon) → n.vars ≡ h.vars → IsBelow n (widening_of h n)
  pub below_itself : (a : Octagon) → IsBelow a a
  pub join_octagon : (a b : Octagon) → IsOctagon a → IsOctagon b → b.vars ≡ a.vars → IsOctagon (join_of a b)
  pub widening_octagon : (h n : Octagon) → IsOctagon h → IsOctagon n → n.vars ≡ h.vars → IsOctagon (widening_of h n)
  pub narrowing_octagon : (h n : Octagon) → IsOctagon h → IsOctagon n → n.vars ≡ h.vars → IsOctagon (narrowing_of h n)
  pub assignment_octagon : (m : Octagon) (k : ℕ) (t : Option ℕ) (c : ℤ) → IsOctagon m → k < m.vars →
      IsTerm m.vars t → IsOctagon (assignment_of m k t c)
  pub guard_octagon : (m r : Octagon) (a b : Option ℕ) (c : ℤ) → IsOctagon m → IsGuard m.vars a b →
      guard_of m a b c ≡ Some r → IsOctagon r
