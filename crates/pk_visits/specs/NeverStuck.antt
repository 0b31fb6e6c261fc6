-- A run of a program is never stuck.
use Rattle.std.specs.Prelude.{ℕ, ◌≤◌, List}
use Rattle.pk_typed.specs.Trees.{UnitTree}
use Rattle.pk_calls.specs.declared.listings.CallPath.{CallPath}
use Rattle.pk_calls.specs.Answers.{HasPaths}
use Rattle.pk_lower.specs.Answers.{point_limit}
use Rattle.pk_lower.specs.Parts.{point_count}
use Rattle.pk_welltyped.specs.WellTyped.{IsUnit}
use Rattle.pk_welltyped.specs.Marks.{AreMarked}
use Rattle.pk_meaning.specs.Endings.{IsNeverStuck}

-- Every typed unit with its call paths.
abbrev pub ProgramsAreNeverStuck : Type 0
ProgramsAreNeverStuck =
    (u : UnitTree) (name : List ℕ) (paths : List CallPath) → IsUnit u → AreMarked u → HasPaths u name paths →
    point_count u paths ≤ point_limit
    → IsNeverStuck (record { unit = u; paths = paths })
