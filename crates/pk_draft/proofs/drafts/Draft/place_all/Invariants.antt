use Rattle.std.proofs.Common.{◌≡◌, ◌+◌, ◌-◌}
use Rattle.pk_draft.specs.Drafts as draft
use Rattle.pk_draft.specs.Shown.{drafted}
use Rattle.pk_draft.proofs.drafts.Draft.place_all.Given as goal

-- what is left to be placed
abbrev pub invariant-loop-point : goal.invariant-loop-point
invariant-loop-point l =
    draft.all_placed (l.from + l.count - l.point) l.point (drafted l.self) ≡ draft.all_placed l.count l.from (drafted l.fn.self)
