use Rattle.std.proofs.Common.{◌<◌, ◌≤◌, ℕ, ap, sym, subst, ◌∙◌, length, map, slice_index_or}
use Rattle.pk_graph.specs.Graphs.{PointOf, no_point, edge_view}
use Rattle.pk_graph.specs.Shown.{graph_view}
use Rattle.pk_graph.specs.OctagonVariables.{is_asked_on}
use Rattle.pk_packs.specs.Belongs.{lies_in_none}
use Rattle.pk_packs.specs.Packs.{with_edges}
use Rattle.pk_packs.proofs.MarkLemmas.{marked_begin, marked_next, marked_end, marked_same}
use Rattle.pk_packs.proofs.EdgeLemmas.{is_asked_of, asked_at, length-with_edges}
use Rattle.pk_packs.proofs.points.mark_rest.Goals as goal

pub loop-point-init : goal.loop-point-init
loop-point-init c =
    marked_begin (λ x (q : PointOf). is_asked_on x q.edges) (with_edges (lies_in_none c.args.plan.now) 0 (graph_view c.args.graph.now).points) c.args.marks.now

pub loop-point-preserved : goal.loop-point-preserved
loop-point-preserved c =
    let g = graph_view c.args.graph.now in
    let f = lies_in_none c.args.plan.now in
    let k = c.loop-point.point in
    let here : k < length g.points = subst (λ (n : ℕ). k < n) c.points-point-end.ensures c.loop-point-test.true in
    marked_next (λ x (q : PointOf). is_asked_on x q.edges) (with_edges f 0 g.points) k no_point c.args.marks.now c.loop-point.marks c.mark_outside.new.marks
    (subst (λ (n : ℕ). k < n) (sym (length-with_edges f 0 g.points)) here)
    c.loop-point.invariant
    (marked_same (λ x. is_asked_of (f k) x (map edge_view c.edges-edges.result.now)) (λ x. is_asked_on x (slice_index_or (with_edges f 0 g.points) k no_point).edges) c.loop-point.marks c.mark_outside.new.marks
    (λ x. ap (is_asked_of (f k) x) c.edges-edges.ensures ∙ sym (asked_at f g.points x k here))
    c.mark_outside.ensures)

pub returns : goal.returns
returns c =
    let g = graph_view c.args.graph.now in
    let f = lies_in_none c.args.plan.now in
    marked_end (λ x (q : PointOf). is_asked_on x q.edges) (with_edges f 0 g.points) c.loop-point.point c.args.marks.now c.loop-point.marks
    (subst (λ (n : ℕ). n ≤ c.loop-point.point) (c.points-point-end.ensures ∙ sym (length-with_edges f 0 g.points)) c.loop-point-test.false)
    c.loop-point.invariant
