use Rattle.std.proofs.Common.{◌≡◌, ◌-◌, ◌++◌, map, drop, length, reverse}
use Rattle.pk_graph.specs.Graphs.{EdgeOf, edge_view}
use Rattle.pk_number.proofs.walks.push_ends.Given as goal

-- those behind the first have been pushed
abbrev pub invariant-loop-past : goal.invariant-loop-past
invariant-loop-past l = reverse l.waiting.items ≡ drop (length l.row - l.past) (map (λ (e : EdgeOf). e.to) (map edge_view l.row)) ++ reverse l.initial.waiting.items
