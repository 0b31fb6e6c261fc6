-- All failures of a text: at each construct the rows of the table of rules that fail there, whatever else fails.
use Rattle.std.specs.Prelude.{ℕ, List, [], ◌++◌}
use Rattle.pk_ast.specs.Trees.{ExternalTree}
use Rattle.pk_type_scope.specs.declared.failures.Failure.{Failure}
use Rattle.pk_type.specs.Files.{Filed}
use Rattle.pk_type.specs.Units.{checked}
use Rattle.pk_type.specs.Rules as units

-- each failure is kept
abbrev pub appended : List Failure → List Failure → List Failure
appended fs gs = fs ++ gs

-- a text from its beginning to its end, with the list of what fails
abbrev pub listing : List ℕ → List ExternalTree → Filed (List Failure)
listing text xs = checked (units.adding appended) [] text xs

abbrev pub failures_of : List ℕ → List ExternalTree → List Failure
failures_of text xs = (listing text xs).walked.found
