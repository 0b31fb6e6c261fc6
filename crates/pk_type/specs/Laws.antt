-- What follows from the definitions alone.
use Rattle.std.specs.Prelude.{◌≡◌, ℕ, List}
use Rattle.pk_ast.specs.Trees.{ExternalTree}
use Rattle.pk_type.specs.Files.{UnitChecks}
use Rattle.pk_type.specs.Units.{checked, unit_of}

-- What is checked, and what was found before, leaves the unit as it is.
abbrev pub ChecksLeaveTheUnit : Type 0 → Type 0 → Type 0
ChecksLeaveTheUnit F G =
    (c : UnitChecks F) (d : UnitChecks G) (found : F) (more : G) (text : List ℕ) (ts : List ExternalTree) →
    unit_of (checked c found text ts) ≡ unit_of (checked d more text ts)
