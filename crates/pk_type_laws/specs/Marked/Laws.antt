-- Labels, cases and defaults of an accepted text.
use Rattle.std.specs.Prelude.{◌≡◌, ℕ, List, None}
use Rattle.pk_ast.specs.Trees.{ExternalTree}
use Rattle.pk_type.specs.Units.{checked, unit_of}
use Rattle.pk_type.specs.Rules as units
use Rattle.pk_welltyped.specs.Marks.{AreMarked}

-- In the typed unit of trees in which no rule fails each label stands once in its function, each case and the default once in its switch.
abbrev pub AcceptedUnitsAreMarked : Type 0
AcceptedUnitsAreMarked =
    (text : List ℕ) (xs : List ExternalTree) → (checked units.noting None text xs).walked.found ≡ None →
    AreMarked (unit_of (checked units.noting None text xs))
