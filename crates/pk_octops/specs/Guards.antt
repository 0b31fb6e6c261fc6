-- Guards on one or two places.
use Rattle.std.specs.Prelude.{◌≢◌, ℕ, ◌<◌, ◌*◌, if◌then◌else◌, ℤ, pos, ◌+ℤ◌, ◌≤ℤ◌, int_lt, Option, Some, None}
use Rattle.pk_octmat.specs.Bounds.{lesser, capped}
use Rattle.pk_octmat.specs.Octagon.{Octagon, entry, bar, side, written, octagon_of}

-- a guard's terms over n variables: the second asks for the first, and is not its negative
abbrev pub IsGuard : ℕ → Option ℕ → Option ℕ → Type 0
IsGuard n None None = Unit {0}
IsGuard n None (Some b) = ⊥
IsGuard n (Some a) None = a < 2 * n
IsGuard n (Some a) (Some b) = (a < 2 * n) × (b < 2 * n) × (b ≢ bar a)

-- V(a) + V(b) is at most c, without the terms that are none
abbrev pub Obeys : (ℕ → ℤ) → Option ℕ → Option ℕ → ℤ → Type 0
Obeys x None None c = pos 0 ≤ℤ c
Obeys x None (Some b) c = side x b ≤ℤ c
Obeys x (Some a) None c = side x a ≤ℤ c
Obeys x (Some a) (Some b) c = (side x a +ℤ side x b) ≤ℤ c

-- the bounds with that on V(j) - V(i), and its coherent one, lowered
abbrev pub lowered : (ℕ → ℕ → Option ℤ) → ℕ → ℕ → ℤ → ℕ → ℕ → Option ℤ
lowered e i j c = written e i j (lesser (e i j) (capped (Some c)))

-- the bounds after a guard
abbrev pub guarded : (ℕ → ℕ → Option ℤ) → Option ℕ → Option ℕ → ℤ → ℕ → ℕ → Option ℤ
guarded e None None c = e
guarded e None (Some b) c = e
guarded e (Some a) None c = lowered e (bar a) a (c +ℤ c)
guarded e (Some a) (Some b) c = lowered e (bar b) a c

-- the bound that is stored, for the second term
abbrev pub bound_of : Option ℕ → ℤ → ℤ
bound_of None c = c +ℤ c
bound_of (Some b) c = c

-- the matrix after a guard, if there is one
abbrev pub guard_of : Octagon → Option ℕ → Option ℕ → ℤ → Option Octagon
guard_of m None b c = if int_lt c (pos 0) then None else Some m
guard_of m (Some a) b c = Some (octagon_of m.vars (guarded (entry m) (Some a) b c))
