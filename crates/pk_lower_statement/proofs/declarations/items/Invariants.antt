use Rattle.std.proofs.Common.{◌≡◌, drop}
use Rattle.pk_typed.specs.Views.{value_trees}
use Rattle.pk_draft.specs.Shown.{drafted}
use Rattle.pk_lower_row.specs.Views.{context_in}
use Rattle.pk_lower_statement.specs.Statements.{items}
use Rattle.pk_lower_statement.proofs.declarations.items.Given as goal

abbrev pub invariant-loop-number : goal.invariant-loop-number
invariant-loop-number l =
    items (context_in l.context) l.object l.number (value_trees (drop l.number l.list)) (drafted l.draft)
    ≡ items (context_in l.context) l.object 0 (value_trees l.list) (drafted l.initial.draft)
