use Rattle.std.proofs.Common.{List, ℕ, length, subst}
use Rattle.pk_graph.specs.Shown.{graph_view}
use Rattle.pk_report.specs.Reports.{AreHeads}
use Rattle.pk_parts.proofs.reporting.Reporting.new.Goals as goal

pub invariant_of-result : goal.invariant_of-result
invariant_of-result c = record {
  graph = c.requires.graph;
  layout = c.requires.layout;
  over = c.requires.over;
  accesses = c.in_ok-accesses.ensures.accesses;
  marks = subst (λ (hs : List ℕ). AreHeads (length (graph_view c.args.graph.now).points) hs c.in_ok-accesses.marks.items) c.deref.ensures.value c.in_ok-accesses.ensures.marks;
}
