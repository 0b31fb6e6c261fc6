-- The numbers that meet octagons (the concretisation), and what the operations mean for them.
use Rattle.std.specs.Prelude.{◌≡◌, ◌⊎◌, ℕ, ◌<◌, ℤ, pos, ◌-ℤ◌, List, [], ◌∷◌, length, slice_get, Option, Some, None}
use Rattle.std.specs.List.{AllZip}
use Rattle.pk_interval.specs.Ranges.{Holds}
use Rattle.pk_value.specs.Known.{Known, IsOf}
use Rattle.pk_octmat.specs.Bounds.{AtMost}
use Rattle.pk_octmat.specs.Octagon.{Octagon, entry, side, with_number, Meets}
use Rattle.pk_octops.specs.Assigns.{Gives}
use Rattle.pk_octops.specs.Guards.{Obeys}
use Rattle.pk_octagons.specs.Packs.{chosen_at, ArePacks}
use Rattle.pk_octagons.specs.Values.{known_at}
use Rattle.pk_octagons.specs.Octagons.{AreOctagons, AreBelow, joined_octagons, widened_octagons, narrowed_octagons}
use Rattle.pk_octagons.specs.Changes.{AreTerms, assigned_octagons, guarded_octagons, bound_in}
use Rattle.pk_octagons.specs.Reduced.{closed_octagons, bounded_values}

abbrev pub number_if : (ℕ → ℤ) → Option ℕ → ℤ
number_if x None = pos 0
number_if x (Some y) = x y

-- of the numbers x of all variables those of a pack's
abbrev pub selected : List ℕ → (ℕ → ℤ) → ℕ → ℤ
selected chosen x k = number_if x (slice_get chosen k)

-- the numbers of a pack's variables meet its octagon
abbrev pub MeetsIn : (ℕ → ℤ) → List ℕ → Octagon → Type 0
MeetsIn x chosen m = Meets (entry m) (selected chosen x)

-- the numbers x of all variables meet all octagons
abbrev pub MeetAll : List (List ℕ) → List Octagon → (ℕ → ℤ) → Type 0
MeetAll packs ms x = AllZip (MeetsIn x) packs ms

abbrev pub MeetAllIf : List (List ℕ) → Option (List Octagon) → (ℕ → ℤ) → Type 0
MeetAllIf packs None x = ⊥
MeetAllIf packs (Some ms) x = MeetAll packs ms x

-- a variable of one of the packs
abbrev pub IsChosen : List (List ℕ) → ℕ → Type 0
IsChosen [] y = ⊥
IsChosen (chosen ∷ packs) y = ((k : ℕ) × (k < length chosen) × (chosen_at chosen k ≡ y)) ⊎ IsChosen packs y

-- the numbers x of the packs' variables lie in their ranges
abbrev pub AreInRange : List (List ℕ) → List Known → (ℕ → ℤ) → Type 0
AreInRange packs vs x = (y : ℕ) → IsChosen packs y → Holds (known_at vs y).range (x y)

-- Joins and widening steps are above both; what is below has no other points; narrowing keeps what both have. Where a variable gets a number, the octagons that are over it are
-- assigned; a guard keeps the points that obey it, whatever variables are read; what is told of two variables holds.
pub record OctagonsAreSound : Type 0 where
  pub joins : (packs : List (List ℕ)) (ms ns : List Octagon) (x : ℕ → ℤ) → AreOctagons packs ms →
      AreOctagons packs ns → MeetAll packs ms x ⊎ MeetAll packs ns x → MeetAll packs (joined_octagons ms ns) x
  pub within : (packs : List (List ℕ)) (ms ns : List Octagon) (x : ℕ → ℤ) → AreOctagons packs ms →
      AreOctagons packs ns → AreBelow ms ns → MeetAll packs ms x → MeetAll packs ns x
  pub widenings : (packs : List (List ℕ)) (hs ns : List Octagon) (x : ℕ → ℤ) → AreOctagons packs hs →
      AreOctagons packs ns → MeetAll packs hs x ⊎ MeetAll packs ns x → MeetAll packs (widened_octagons hs ns) x
  pub narrowings : (packs : List (List ℕ)) (hs ns : List Octagon) (x : ℕ → ℤ) → AreOctagons packs hs →
      AreOctagons packs ns → MeetAll packs hs x → MeetAll packs ns x → MeetAll packs (narrowed_octagons hs ns) x
  pub assigned : (n : ℕ) (packs : List (List ℕ)) (ms : List Octagon) (x : ℕ → ℤ) (y : ℕ) (t : Option ℕ) (c z : ℤ)
      (over : List ℕ) → ArePacks n packs → AreOctagons packs ms → Gives x t c z → MeetAll packs ms x →
      MeetAll packs (assigned_octagons packs ms y t c over) (with_number x y z)
  pub guarded : (packs : List (List ℕ)) (ms : List Octagon) (x : ℕ → ℤ) (a b : Option ℕ) (c : ℤ) (over : List ℕ) →
      AreOctagons packs ms → AreTerms a b → Obeys x a b c → MeetAll packs ms x →
      MeetAllIf packs (guarded_octagons packs ms a b c over) x
  pub told : (packs : List (List ℕ)) (ms : List Octagon) (x : ℕ → ℤ) (i j : ℕ) → MeetAll packs ms x →
      AtMost (Some (side x j -ℤ side x i)) (bound_in packs ms i j)

-- the numbers x of the packs' variables are known as possible
abbrev pub ArePossible : List (List ℕ) → List Known → (ℕ → ℤ) → Type 0
ArePossible packs vs x = (y : ℕ) → IsChosen packs y → IsOf (known_at vs y) (x y)

-- what is left of the values has their numbers, of a pack's variable that of x
abbrev pub KeepsNumbers : List (List ℕ) → (ℕ → ℤ) → List Known → Option (List Known) → Type 0
KeepsNumbers packs x vs None = ⊥
KeepsNumbers packs x vs (Some ws) =
    (y : ℕ) (z : ℤ) → (IsChosen packs y → z ≡ x y) → IsOf (known_at vs y) z → IsOf (known_at ws y) z

-- Lowering by ranges and closing keeps exactly the points whose numbers lie in the ranges; bounding keeps the numbers of points that meet all octagons, and adds none.
pub record ReductionsAreExact : Type 0 where
  pub kept : (packs : List (List ℕ)) (vs : List Known) (ms : List Octagon) (x : ℕ → ℤ) → AreOctagons packs ms →
      AreInRange packs vs x → MeetAll packs ms x → MeetAllIf packs (closed_octagons packs vs ms) x
  pub only : (packs : List (List ℕ)) (vs : List Known) (ms ns : List Octagon) (x : ℕ → ℤ) → AreOctagons packs ms →
      closed_octagons packs vs ms ≡ Some ns → MeetAll packs ns x → MeetAll packs ms x
  pub bounded : (packs : List (List ℕ)) (ms : List Octagon) (vs : List Known) (x : ℕ → ℤ) →
      ArePacks (length vs) packs → MeetAll packs ms x → ArePossible packs vs x →
      KeepsNumbers packs x vs (bounded_values packs ms vs)
  pub bounded_only : (packs : List (List ℕ)) (ms : List Octagon) (vs ws : List Known) (y : ℕ) (z : ℤ) →
      ArePacks (length vs) packs → bounded_values packs ms vs ≡ Some ws → IsOf (known_at ws y) z →
      IsOf (known_at vs y) z
