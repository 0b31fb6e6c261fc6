-- Closing as a function: the least sums by one place after another (Floyd 1962), then the tightening.
use Rattle.std.specs.Prelude.{◌≡◌, ℕ, zero, suc, ◌*◌, Bool, false, ◌||◌, if◌then◌else◌, ℤ, Option, Some, None}
use Rattle.pk_octmat.specs.Bounds.{capped, is_negative}
use Rattle.pk_octmat.specs.Octagon.{Octagon, entry, forgotten, octagon_of, IsOctagon, Meets}
use Rattle.pk_octclose.specs.Walks.{relaxed}
use Rattle.pk_octclose.specs.Closing.{evened, there_and_back, tight, IsClosing, IsEmpty, KeepsPoints}

-- one of the first n bounds is negative
abbrev pub some_negative : (ℕ → Option ℤ) → ℕ → Bool
some_negative f zero = false
some_negative f (suc n) = is_negative (f n) || some_negative f n

-- the bounds, unless one of the diagonal is negative
abbrev pub unless_negative : ℕ → (ℕ → ℕ → Option ℤ) → Option (ℕ → ℕ → Option ℤ)
unless_negative d f = if some_negative (λ i. f i i) d then None else Some f

-- one place more
abbrev pub through_place : ℕ → ℕ → Option (ℕ → ℕ → Option ℤ) → Option (ℕ → ℕ → Option ℤ)
through_place d k None = None
through_place d k (Some f) = unless_negative d (relaxed f k)

-- the least sums of walks through the first k places
unfoldable pub sums_through : ℕ → (ℕ → ℕ → Option ℤ) → ℕ → Option (ℕ → ℕ → Option ℤ)
sums_through d e zero = Some e
sums_through d e (suc k) = through_place d k (sums_through d e k)

-- even bounds that don't exclude each other, one tightening, and the cap
abbrev pub tightened : ℕ → Option (ℕ → ℕ → Option ℤ) → Option Octagon
tightened n None = None
tightened n (Some f) =
    if some_negative (there_and_back (evened f)) (2 * n) then None
    else Some (octagon_of n (λ i j. capped (tight (evened f) i j)))

-- the closing of an octagon, if it has one
unfoldable pub closing_of : Octagon → Option Octagon
closing_of m = tightened m.vars (sums_through (2 * m.vars) (entry m) (2 * m.vars))

-- the octagon is its own closing once the bounds on variable k are taken away
abbrev pub IsClosedBut : Octagon → ℕ → Type 0
IsClosedBut m k =
    closing_of (octagon_of m.vars (forgotten (entry m) k)) ≡ Some (octagon_of m.vars (forgotten (entry m) k))

-- It is that by least sums of walks.
pub record ClosingIsRight : Type 0 where
  pub some : (m r : Octagon) → IsOctagon m → closing_of m ≡ Some r → IsClosing (2 * m.vars) (entry m) (entry r)
  pub octagon : (m r : Octagon) → IsOctagon m → closing_of m ≡ Some r → IsOctagon r
  pub vars : (m r : Octagon) → IsOctagon m → closing_of m ≡ Some r → r.vars ≡ m.vars
  pub points : (m r : Octagon) → IsOctagon m → closing_of m ≡ Some r → KeepsPoints (entry m) (entry r)
  pub none : (m : Octagon) → IsOctagon m → closing_of m ≡ None → IsEmpty (2 * m.vars) (entry m)
  pub nothing : (m : Octagon) (x : ℕ → ℤ) → IsOctagon m → closing_of m ≡ None → Meets (entry m) x → ⊥
  pub again : (m : Octagon) → IsOctagon m → IsClosing (2 * m.vars) (entry m) (entry m) → closing_of m ≡ Some m
