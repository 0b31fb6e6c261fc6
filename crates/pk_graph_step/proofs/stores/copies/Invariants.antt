use Rattle.std.proofs.Common.{◌≡◌, take}
use Rattle.pk_graph_step.proofs.StoreLemmas.{items_of}
use Rattle.pk_graph_step.proofs.stores.copies.Given as goal

abbrev pub invariant-loop-k : goal.invariant-loop-k
invariant-loop-k l = items_of l.copies.items ≡ items_of (take l.k l.rows)
