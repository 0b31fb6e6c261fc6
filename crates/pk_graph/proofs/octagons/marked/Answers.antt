use Rattle.std.proofs.Common.{◌<◌, ◌≤◌, ◌∙◌, ℕ, Bool, List, ap, sym, subst, false, replicate, length, map, slice_index_or}
use Rattle.std.proofs.lemmas.List.{length-map, with_items_is}
use Rattle.pk_graph.specs.Graphs.{VariableOf, PointOf, no_point, edge_view, variable_view}
use Rattle.pk_graph.specs.Shown.{graph_view}
use Rattle.pk_graph.specs.OctagonVariables.{is_asked_on, AreMarked}
use Rattle.pk_graph.proofs.MarkLemmas.{marked_begin, marked_next, marked_end, marked_same, marks_of}
use Rattle.pk_graph.proofs.octagons.marked.Goals as goal

abbrev asked : ℕ → PointOf → Bool
asked x p = is_asked_on x p.edges

pub loop-point-init : goal.loop-point-init
loop-point-init c = marked_begin asked (graph_view c.args.graph.now).points c.in_ok-marks.marks.items

pub loop-point-preserved : goal.loop-point-preserved
loop-point-preserved c =
    let points = (graph_view c.args.graph.now).points in
    rw (with_items_is c.loop-point.marks c.mark_edges.new.marks (c.mark_edges.auto.marks ∙ c.deref_mut.ensures.len))
    (marked_next asked points c.loop-point.point no_point c.in_ok-marks.marks.items c.loop-point.marks.items c.mark_edges.new.marks
    (subst (λ (n : ℕ). c.loop-point.point < n) c.points-point-end.ensures c.loop-point-test.true)
    c.loop-point.invariant
    (marked_same (λ x. is_asked_on x (map edge_view c.edges-edges.result.now)) (λ x. asked x (slice_index_or points c.loop-point.point no_point)) c.loop-point.marks.items c.mark_edges.new.marks
    (λ x. ap (is_asked_on x) c.edges-edges.ensures)
    (subst (λ (b : List Bool). AreMarked (λ x. is_asked_on x (map edge_view c.edges-edges.result.now)) b c.mark_edges.new.marks) c.deref_mut.ensures.value c.mark_edges.ensures)))

pub returns : goal.returns
returns c =
    let g = graph_view c.args.graph.now in
    marks_of g.points (length g.variables) c.in_ok-marks.marks.items c.loop-point.marks.items
    (c.in_ok-marks.ensures.items_if_clones_equal (λ y e. e)
    ∙ ap (λ (k : ℕ). replicate k false) (sym (length-map c.variables.result.now variable_view) ∙ ap (λ (vs : List VariableOf). length vs) c.variables.ensures))
    (marked_end asked g.points c.loop-point.point c.in_ok-marks.marks.items c.loop-point.marks.items
    (subst (λ (n : ℕ). n ≤ c.loop-point.point) c.points-point-end.ensures c.loop-point-test.false)
    c.loop-point.invariant)
