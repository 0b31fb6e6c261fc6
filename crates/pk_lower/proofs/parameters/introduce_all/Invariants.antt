use Rattle.std.proofs.Common.{◌≡◌, drop}
use Rattle.pk_draft.specs.Shown.{drafted}
use Rattle.pk_lower_row.specs.Views.{context_in}
use Rattle.pk_lower.specs.Parts.{all_introduced}
use Rattle.pk_lower.proofs.parameters.introduce_all.Given as goal

-- what is left
abbrev pub invariant-loop-object : goal.invariant-loop-object
invariant-loop-object l = all_introduced (context_in l.context) l.caller l.object (drop l.object l.parameters) (drafted l.draft) ≡ all_introduced (context_in l.fn.context) l.fn.caller 0 l.fn.parameters (drafted l.fn.draft)
