-- What typing gives for a text in which no rule fails.
use Rattle.std.specs.Prelude.{◌≡◌, ℕ, List, None}
use Rattle.pk_ast.specs.Trees.{ExternalTree}
use Rattle.pk_type.specs.Units.{checked, unit_of}
use Rattle.pk_type.specs.Rules as units
use Rattle.pk_welltyped.specs.WellTyped.{IsUnit}
use Rattle.pk_type_laws.specs.Accepted.Constants.{ExternalsHave}

-- The typed unit of trees in which no rule fails is well typed, where their constants are numbers of their types.
abbrev pub AcceptedUnitsAreWellTyped : Type 0
AcceptedUnitsAreWellTyped =
    (text : List ℕ) (xs : List ExternalTree) → ExternalsHave xs →
    (checked units.noting None text xs).walked.found ≡ None →
    IsUnit (unit_of (checked units.noting None text xs))
