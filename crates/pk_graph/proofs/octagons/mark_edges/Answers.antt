use Rattle.std.proofs.Common.{◌<◌, ◌≤◌, ℕ, ap, ◌∙◌, sym, subst, map, slice_index_or, Bool}
use Rattle.std.proofs.lemmas.List.{get_or-map, length-map}
use Rattle.pk_graph.specs.Graphs.{EdgeOf, edge_view}
use Rattle.pk_graph.specs.OctagonVariables.{is_asked_by}
use Rattle.pk_graph.proofs.MarkLemmas.{marked_begin, marked_next, marked_end, marked_same}
use Rattle.pk_graph.proofs.octagons.mark_edges.Goals as goal

abbrev asked : ℕ → EdgeOf → Bool
asked x e = is_asked_by x e.instr

pub loop-number-init : goal.loop-number-init
loop-number-init c = marked_begin asked (map edge_view c.args.edges.now) c.args.marks.now

pub loop-number-preserved : goal.loop-number-preserved
loop-number-preserved c =
    let e = c.index-edges-number.result in
    let same = get_or-map edge_view c.args.edges.now c.loop-number.number e (edge_view e) c.loop-number-test.true ∙ ap edge_view (sym c.index-edges-number.is) in
    marked_next asked (map edge_view c.args.edges.now) c.loop-number.number (edge_view e) c.args.marks.now c.loop-number.marks c.mark_edge.new.marks
    (subst (λ (n : ℕ). c.loop-number.number < n) (sym (length-map c.args.edges.now edge_view)) c.loop-number-test.true)
    c.loop-number.invariant
    (marked_same (λ x. asked x (edge_view e)) (λ x. asked x (slice_index_or (map edge_view c.args.edges.now) c.loop-number.number (edge_view e))) c.loop-number.marks c.mark_edge.new.marks
    (λ x. ap (asked x) (sym same)) c.mark_edge.ensures)

pub returns : goal.returns
returns c =
    marked_end asked (map edge_view c.args.edges.now) c.loop-number.number c.args.marks.now c.loop-number.marks
    (subst (λ (n : ℕ). n ≤ c.loop-number.number) (sym (length-map c.args.edges.now edge_view)) c.loop-number-test.false)
    c.loop-number.invariant
