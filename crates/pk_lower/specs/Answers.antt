-- What the lowering of a unit with its call paths is answered.
use Rattle.std.specs.Prelude.{◌≡◌, ℕ, ◌<◌, ◌≤◌, List, Result, Ok, Err}
use Rattle.pk_typed.specs.Trees.{UnitTree}
use Rattle.pk_calls.specs.declared.listings.CallPath.{CallPath}
use Rattle.pk_draft.specs.declared.drafts.Draft.{Draft}
use Rattle.pk_draft.specs.declared.failures.LowerError.{LowerError}
use Rattle.pk_draft.specs.declared.failures.LowerError.TheVariants.{Limit, Memory}
use Rattle.pk_draft.specs.Drafts.{by_number}
use Rattle.pk_draft.specs.Shown.{drafted}
use Rattle.pk_lower.specs.Parts.{point_count, program_draft}

-- the most points of a graph, reached or not
abbrev pub point_limit : ℕ
point_limit = 65536

-- The answer: the draft where it has no more points, else the limit. Want of memory is no answer about the unit.
abbrev pub IsAnswer : UnitTree → List CallPath → Result Draft LowerError → Type 0
IsAnswer u paths (Ok d) = (drafted d ≡ program_draft by_number u paths) × (point_count u paths ≤ point_limit)
IsAnswer u paths (Err Limit) = point_limit < point_count u paths
IsAnswer u paths (Err Memory) = Unit {0}
