use Rattle.pk_graph.specs.Shown.{graph_view}
use Rattle.pk_analysis.proofs.StartLemmas.{IsStartedTo}
use Rattle.pk_analysis.proofs.starts.start.Given as goal

abbrev pub invariant-loop-j : goal.invariant-loop-j
invariant-loop-j l = IsStartedTo (graph_view l.graph) l.frame l.j l.state
