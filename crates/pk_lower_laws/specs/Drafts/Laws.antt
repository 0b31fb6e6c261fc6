-- The draft of a well-typed unit with its call paths is typed.
use Rattle.std.specs.Prelude.{◌≡◌, ℕ, ◌+◌, ◌≤◌, List, length}
use Rattle.pk_typed.specs.Trees.{UnitTree}
use Rattle.pk_calls.specs.declared.listings.CallPath.{CallPath}
use Rattle.pk_calls.specs.Calls.{HasBody}
use Rattle.pk_calls.specs.Paths.{IsListing}
use Rattle.pk_calls.specs.Laws.{AreCallPaths}
use Rattle.pk_draft.specs.Drafts.{by_number}
use Rattle.pk_lower.specs.Parts.{point_count, program_draft}
use Rattle.pk_number.specs.Typed.{IsTypedDraft}
use Rattle.pk_welltyped.specs.WellTyped.{IsUnit}
use Rattle.pk_lower.specs.Answers.{point_limit}

-- from an entry with a body, where the points are within their limit
abbrev pub DraftsAreTyped : Type 0
DraftsAreTyped =
    (u : UnitTree) (entry : ℕ) (paths : List CallPath) → IsUnit u → HasBody u entry → IsListing u entry paths →
    AreCallPaths u entry paths → point_count u paths ≤ point_limit
    → IsTypedDraft (length paths) (program_draft by_number u paths)

-- The draft has a label for each point that is made, reached or not, and one for no point.
abbrev pub DraftsHaveLabels : Type 0
DraftsHaveLabels =
    (u : UnitTree) (entry : ℕ) (paths : List CallPath) → IsUnit u → HasBody u entry → IsListing u entry paths →
    AreCallPaths u entry paths → length (program_draft by_number u paths).labels ≡ point_count u paths + 1
