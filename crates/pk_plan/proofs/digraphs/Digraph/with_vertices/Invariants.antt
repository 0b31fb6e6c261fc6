use Rattle.std.proofs.Common.{◌≡◌, [], replicate}
use Rattle.pk_plan.specs.Digraphs.{lists_of}
use Rattle.pk_plan.proofs.digraphs.Digraph.with_vertices.Given as goal

abbrev pub invariant-loop : goal.invariant-loop
invariant-loop l = lists_of l.successors.items ≡ replicate l.counter []
