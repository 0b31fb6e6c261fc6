use Rattle.std.proofs.Common.{ℕ, map, not}
use Rattle.pk_graph.specs.Graphs.{variable_view}
use Rattle.pk_graph.specs.Visible.{is_of_file}
use Rattle.pk_graph.proofs.VisibleLemmas.{ArePassing}
use Rattle.pk_graph.proofs.visibility.files_first.Given as goal

abbrev pub invariant-loop-number : goal.invariant-loop-number
invariant-loop-number l = record {
  files : ArePassing (is_of_file (map variable_view l.variables)) l.list l.number l.files.items;
  others : ArePassing (λ (x : ℕ). not (is_of_file (map variable_view l.variables) x)) l.list l.number l.others.items;
}
