use Rattle.std.proofs.Common.{◌≡◌, ◌+◌, ℕ, map, drop}
use Rattle.pk_typed.specs.Views.{value_trees}
use Rattle.pk_graph.specs.Views.{tree_view}
use Rattle.pk_draft.specs.Shown.{drafted}
use Rattle.pk_lower_row.specs.Rows as rows
use Rattle.pk_lower_expression.proofs.calls.bind_all.Given as goal

abbrev pub invariant-loop-number : goal.invariant-loop-number
invariant-loop-number l =
    (k : ℕ) → rows.bound k l.number (l.first + l.number) (drop l.number l.parameters) (rows.types_of (value_trees (drop l.number l.values))) (map tree_view (drop l.number l.trees)) (drafted l.draft)
    ≡ rows.bound k 0 l.first l.parameters (rows.types_of (value_trees l.values)) (map tree_view l.trees) (drafted l.initial.draft)
