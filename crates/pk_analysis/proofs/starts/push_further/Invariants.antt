use Rattle.pk_graph.specs.Graphs.{variable_view}
use Rattle.pk_analysis.proofs.StartLemmas.{AreNumbersTo}
use Rattle.pk_analysis.proofs.starts.push_further.Given as goal

abbrev pub invariant-loop-i : goal.invariant-loop-i
invariant-loop-i l = AreNumbersTo (variable_view l.variable) l.i l.fn.values.items l.values.items
