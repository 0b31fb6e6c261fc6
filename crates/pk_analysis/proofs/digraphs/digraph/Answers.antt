use Rattle.std.proofs.Common.{ℕ, ◌≤◌, List, ap, ◌∙◌, sym, subst, map}
use Rattle.std.proofs.lemmas.List.{take_all}
use Rattle.pk_plan.specs.Digraphs.{IsClosed}
use Rattle.pk_graph.specs.Graphs.{PointOf}
use Rattle.pk_graph.specs.Shown.{graph_view}
use Rattle.pk_analysis.proofs.DigraphLemmas.{row_of, closed}
use Rattle.pk_analysis.proofs.digraphs.digraph.Goals as goal

pub new-requires-clause-targets : goal.new-requires-clause-targets
new-requires-clause-targets c =
    let ps = (graph_view c.args.graph.now).points in
    let whole = c.loop-point.invariant ∙ ap (λ (qs : List PointOf). map row_of qs) (take_all c.loop-point.point ps (subst (λ (n : ℕ). n ≤ c.loop-point.point) c.points-point-end.ensures c.loop-point-test.false)) in
    subst (λ (rows : List (List ℕ)). IsClosed rows) (sym whole) (closed (graph_view c.args.graph.now) c.well_made.ensures)
