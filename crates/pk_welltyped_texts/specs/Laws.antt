-- What holds of the typed unit of a text.
use Rattle.std.specs.Prelude.{ℕ, ◌≤◌, List, length}
use Rattle.pk_ast.specs.Trees.{ExternalTree}
use Rattle.pk_typed.specs.Trees.{UnitTree}
use Rattle.pk_calls.specs.declared.listings.CallPath.{CallPath}
use Rattle.pk_draft.specs.Drafts.{by_number}
use Rattle.pk_lower.specs.Parts.{point_count, program_draft}
use Rattle.pk_number.specs.Typed.{IsTypedDraft}
use Rattle.pk_front.specs.Texts.{HasTrees, HasUnit, HasPaths}
use Rattle.pk_welltyped.specs.WellTyped.{IsUnit}
use Rattle.pk_type_laws.specs.Accepted.Constants.{ExternalsHave}
use Rattle.pk_lower.specs.Answers.{point_limit}

-- constants of a text's trees are numbers of their types
abbrev pub TextsHaveConstants : Type 0
TextsHaveConstants = (text : List ℕ) (xs : List ExternalTree) → HasTrees text xs → ExternalsHave xs

-- the typed unit of a text is well typed
abbrev pub TextsAreWellTyped : Type 0
TextsAreWellTyped = (text : List ℕ) (u : UnitTree) → HasUnit text u → IsUnit u

-- the draft of a text with its call paths is typed, where the points are within their limit
abbrev pub DraftsOfTextsAreTyped : Type 0
DraftsOfTextsAreTyped =
    (text entry : List ℕ) (u : UnitTree) (paths : List CallPath) → HasPaths text entry u paths →
    point_count u paths ≤ point_limit → IsTypedDraft (length paths) (program_draft by_number u paths)
