use Rattle.std.proofs.Common.{◌++◌, ◌∙◌, ap, subst, ◌<◌, ◌≤◌, ℕ, ℤ, List}
use Rattle.std.specs.List.{flat_map}
use Rattle.pk_graph.specs.Graphs.{EdgeOf}
use Rattle.pk_graph.specs.Shown.{graph_view}
use Rattle.pk_thresh.specs.Thresholds.{constants_along, constants_at}
use Rattle.pk_thresh.proofs.PointLemmas.{up_to_next, up_to_end}
use Rattle.pk_thresh.proofs.constants.constants.Goals as goal

pub loop-point-init : goal.loop-point-init
loop-point-init c = ap (λ (ys : List ℤ). ys ++ flat_map constants_at (graph_view c.args.graph.now).points) c.new-all.ensures.items

pub loop-point-preserved : goal.loop-point-preserved
loop-point-preserved c =
    up_to_next (graph_view c.args.graph.now).points c.loop-point.point c.loop-point.all.items c.add_edges.new.all.items
    (subst (λ (n : ℕ). c.loop-point.point < n) c.points-point-end.ensures c.loop-point-test.true)
    c.loop-point.invariant
    (c.in_ok-add_edges.ensures ∙ ap (λ (es : List EdgeOf). c.loop-point.all.items ++ constants_along es) c.edges.ensures)

pub returns : goal.returns
returns c =
    up_to_end (graph_view c.args.graph.now).points c.loop-point.point c.loop-point.all.items
    (subst (λ (n : ℕ). n ≤ c.loop-point.point) c.points-point-end.ensures c.loop-point-test.false)
    c.loop-point.invariant
