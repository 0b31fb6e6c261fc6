use Rattle.std.proofs.Common.{◌≡◌, ◌++◌, ◌-◌, map, replicate}
use Rattle.pk_graph.specs.Graphs.{variable_view, no_variable}
use Rattle.pk_draft.proofs.drafts.with_space.Given as goal

-- what is left
abbrev pub invariant-loop : goal.invariant-loop
invariant-loop l = map variable_view l.variables.items ++ replicate (l.count - l.counter) no_variable ≡ map variable_view l.fn.variables.items ++ replicate l.count no_variable
