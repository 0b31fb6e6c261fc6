use Rattle.std.proofs.Common.{◌≡◌}
use Rattle.pk_draft.specs.Drafts as draft
use Rattle.pk_draft.proofs.drafts.file_scopes.Given as goal

abbrev pub invariant-loop-variable : goal.invariant-loop-variable
invariant-loop-variable l = l.scopes.items ≡ draft.file_scopes l.variable
