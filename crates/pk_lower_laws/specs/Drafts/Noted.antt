-- Calls of a well-typed unit are noted.
use Rattle.pk_typed.specs.Trees.{UnitTree}
use Rattle.pk_welltyped.specs.WellTyped.{IsUnit}
use Rattle.pk_lower_laws.specs.Parts.Listed.{CallsAreNoted}

-- Calls in the trees of a body have their numbers among the calls that are noted of it.
abbrev pub WellTypedCallsAreNoted : Type 0
WellTypedCallsAreNoted = (u : UnitTree) → IsUnit u → CallsAreNoted u
