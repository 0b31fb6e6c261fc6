use Rattle.std.proofs.Common.{◌≡◌, drop}
use Rattle.pk_graph.specs.Steps.{all_in_type}
use Rattle.pk_graph_step.proofs.stepping.all_fit.Given as goal

abbrev pub invariant-loop-k : goal.invariant-loop-k
invariant-loop-k l = all_in_type l.int_type (drop l.k l.numbers) ≡ all_in_type l.int_type l.numbers
