-- A variable assigned, and a guard passed, in each octagon that is over their variables; and what is known of two variables.
use Rattle.std.specs.Prelude.{◌≢◌, ℕ, List, [], ◌∷◌, ℤ, pos, int_lt, ◌&&◌, if◌then◌else◌, Option, Some, None}
use Rattle.pk_octmat.specs.Bounds.{lesser}
use Rattle.pk_octmat.specs.Octagon.{Octagon, entry, bar}
use Rattle.pk_octops.specs.Assigns.{assignment_of}
use Rattle.pk_octops.specs.Guards.{guard_of}
use Rattle.pk_octagons.specs.Packs.{place_in, is_some_over, side_in, side_over}

-- goes on with what there is
abbrev pub then_with : {A B : Type 0} → Option A → (A → Option B) → Option B
then_with None f = None
then_with (Some v) f = f v

-- each octagon, with its pack
abbrev pub each_changed : (List ℕ → Octagon → Octagon) → List (List ℕ) → List Octagon → List Octagon
each_changed f [] ms = []
each_changed f (chosen ∷ packs) [] = []
each_changed f (chosen ∷ packs) (m ∷ ms) = f chosen m ∷ each_changed f packs ms

-- an octagon, at a place if there is one
abbrev pub changed_at : Option ℕ → Octagon → (ℕ → Octagon) → Octagon
changed_at None m f = m
changed_at (Some k) m f = f k

-- Variable x gets V(t) + c in an octagon over these variables, or any number: where there is no t, and where the octagon isn't over each variable that is read.
abbrev pub assigned_in : ℕ → Option ℕ → ℤ → List ℕ → List ℕ → Octagon → Octagon
assigned_in x t c over chosen m =
    changed_at (place_in chosen x) m (λ k. assignment_of m k (then_with t (side_over over chosen)) c)

abbrev pub assigned_octagons : List (List ℕ) → List Octagon → ℕ → Option ℕ → ℤ → List ℕ → List Octagon
assigned_octagons packs ms x t c over = each_changed (assigned_in x t c over) packs ms

-- the octagon, or another that there is
abbrev pub or_else : Octagon → Option Octagon → Octagon
or_else m None = m
or_else m (Some n) = n

-- V(a) is at most c, in an octagon over these variables, where it is over each that is read
abbrev pub bounded_in : ℕ → ℤ → List ℕ → List ℕ → Octagon → Octagon
bounded_in a c over chosen m =
    changed_at (side_over over chosen a) m (λ i. or_else m (guard_of m (Some i) None c))

-- V(a) + V(b) is at most c, so
abbrev pub related_in : ℕ → ℕ → ℤ → List ℕ → List ℕ → Octagon → Octagon
related_in a b c over chosen m =
    changed_at (side_over over chosen a) m (λ i.
    changed_at (side_over over chosen b) m (λ j. or_else m (guard_of m (Some i) (Some j) c)))

-- a guard's terms: the second asks for the first, and is not its negative
abbrev pub AreTerms : Option ℕ → Option ℕ → Type 0
AreTerms None None = Unit {0}
AreTerms None (Some b) = ⊥
AreTerms (Some a) None = Unit {0}
AreTerms (Some a) (Some b) = b ≢ bar a

-- V(a) + V(b) is at most c, without the terms that are none: in each octagon that is over each variable that is read. Where there is one, of nothing but a negative number
-- nothing is left.
abbrev pub guarded_octagons : List (List ℕ) → List Octagon → Option ℕ → Option ℕ → ℤ → List ℕ → Option (List Octagon)
guarded_octagons packs ms None b c over = if int_lt c (pos 0) && is_some_over over packs then None else Some ms
guarded_octagons packs ms (Some a) None c over = Some (each_changed (bounded_in a c over) packs ms)
guarded_octagons packs ms (Some a) (Some b) c over = Some (each_changed (related_in a b c over) packs ms)

-- the bound on V(j) - V(i) of an octagon over these variables, if there is one
abbrev pub bound_by : List ℕ → Octagon → ℕ → ℕ → Option ℤ
bound_by chosen m i j = then_with (side_in chosen i) (λ a. then_with (side_in chosen j) (entry m a))

-- the least of all octagons
abbrev pub bound_in : List (List ℕ) → List Octagon → ℕ → ℕ → Option ℤ
bound_in [] ms i j = None
bound_in (chosen ∷ packs) [] i j = None
bound_in (chosen ∷ packs) (m ∷ ms) i j = lesser (bound_by chosen m i j) (bound_in packs ms i j)
