use Rattle.std.proofs.Common.{◌≡◌, drop}
use Rattle.pk_typed.specs.Views.{item_trees}
use Rattle.pk_draft.specs.Shown.{drafted}
use Rattle.pk_lower_row.specs.Views.{context_in}
use Rattle.pk_lower_statement.specs.Statements.{lowered_items}
use Rattle.pk_lower_statement.proofs.statements.+statements.Given as goal

abbrev pub invariant-lower_items-loop-item : goal.invariant-lower_items-loop-item
invariant-lower_items-loop-item l =
    lowered_items (context_in l.context) (item_trees (drop l.item-index l.items)) l.exits (drafted l.draft)
    ≡ lowered_items (context_in l.context) (item_trees l.items) l.exits (drafted l.initial.draft)
