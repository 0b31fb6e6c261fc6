use Rattle.std.proofs.Common.{◌≡◌, drop}
use Rattle.pk_typed.specs.Views.{unit_tree}
use Rattle.pk_draft.specs.Drafts.{by_number}
use Rattle.pk_draft.specs.Shown.{drafted}
use Rattle.pk_lower.specs.Parts.{parts_from, program_draft}
use Rattle.pk_lower.proofs.programs.draft.Given as goal

-- what is left
abbrev pub invariant-loop-number : goal.invariant-loop-number
invariant-loop-number l = parts_from (unit_tree l.unit) l.sizes.items l.number l.first (drop l.number l.paths) (drafted l.draft) ≡ program_draft by_number (unit_tree l.unit) l.paths
