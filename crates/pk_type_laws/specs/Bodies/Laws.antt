-- The functions of an accepted text: no failure leaves one without its typed body.
use Rattle.std.specs.Prelude.{◌≡◌, ℕ, is_some, List, Some, None, slice_get}
use Rattle.pk_ast.specs.Trees.{ExternalTree}
use Rattle.pk_type.specs.Files.{EntryTree}
use Rattle.pk_type.specs.Units.{checked}
use Rattle.pk_type.specs.Rules as units

-- In a text in which no rule fails each function that was defined has a body, and no other has one.
abbrev pub FunctionsHaveBodies : Type 0
FunctionsHaveBodies = (text : List ℕ) (xs : List ExternalTree) → (checked units.noting None text xs).walked.found ≡ None
    → (n : ℕ) (e : EntryTree) → slice_get (checked units.noting None text xs).functions n ≡ Some e →
    is_some e.body ≡ e.is_defined
