use Rattle.std.proofs.Common.{◌++◌, ◌∙◌, ap, subst, ◌<◌, ◌≤◌, ℕ, List}
use Rattle.pk_graph.specs.Accesses.{of_edges, of_points}
use Rattle.pk_graph.specs.AccessViews.{access_views}
use Rattle.pk_graph.specs.Graphs.{EdgeOf}
use Rattle.pk_graph.specs.Shown.{graph_view}
use Rattle.pk_graph.proofs.AccessLemmas.{up_to_next, up_to_end}
use Rattle.pk_graph.proofs.operations.accesses.Goals as goal

pub loop-point-init : goal.loop-point-init
loop-point-init c = ap (λ (ys : _). access_views ys ++ of_points 0 (graph_view c.args.graph.now).points) c.new-all.ensures.items

pub loop-point-preserved : goal.loop-point-preserved
loop-point-preserved c =
    up_to_next (graph_view c.args.graph.now).points c.loop-point.point (access_views c.loop-point.all.items) (access_views c.add_edges.new.all.items)
    (subst (λ (n : ℕ). c.loop-point.point < n) c.points-point-end.ensures c.loop-point-test.true)
    c.loop-point.invariant
    (c.in_ok-add_edges.ensures ∙ ap (λ (es : List EdgeOf). access_views c.loop-point.all.items ++ of_edges c.loop-point.point es) c.edges.ensures)

pub returns : goal.returns
returns c =
    up_to_end (graph_view c.args.graph.now).points c.loop-point.point (access_views c.loop-point.all.items)
    (subst (λ (n : ℕ). n ≤ c.loop-point.point) c.points-point-end.ensures c.loop-point-test.false)
    c.loop-point.invariant
