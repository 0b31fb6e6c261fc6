-- The one instruction of a point.
use Rattle.std.proofs.Common.{◌≡◌, ◌<◌, ℕ, ap, subst, sym, ◌∙◌, List, length, map}
use Rattle.std.specs.List.{slice_index_or}
use Rattle.std.proofs.lemmas.List.{get_or-map, length-map}
use Rattle.pk_graph.specs.declared.graphs.Edge.{Edge}
use Rattle.pk_graph.specs.Trees.{InstrOf}
use Rattle.pk_graph.specs.Views.{instr_view}
use Rattle.pk_graph.specs.Graphs.{EdgeOf, GraphOf, edge_view, point_at}
use Rattle.pk_graph.specs.WellMade.{IsGraph}
use Rattle.pk_state.specs.Layouts.{Layout}
use Rattle.pk_transfer.specs.Transfers.{IsInstrOver}
use Rattle.pk_transfer.specs.Graphs.{GraphsAreOver, layout_of}

-- the first edge's instruction may be transferred
pub over_first : (g : GraphOf) (y : Layout) (n p : ℕ) (es : List Edge) (e : Edge) → GraphsAreOver → IsGraph g → y ≡ layout_of g n → p < length g.points → map edge_view es ≡ (point_at g p).edges → 0 < length es
    → IsInstrOver y (instr_view (slice_index_or es 0 e).instr)
unfolding edge_view
over_first g y n p es e law made is h are some =
    let there : 0 < length (point_at g p).edges = subst (λ (xs : List EdgeOf). 0 < length xs) are (subst (λ (k : ℕ). 0 < k) (sym (length-map es edge_view)) some) in
    let first = law.instructions g (layout_of g n) p made (law.over g n) h 0 (edge_view e) there in
    let instr = ap (λ (xs : List EdgeOf). (slice_index_or xs 0 (edge_view e)).instr) (sym are) ∙ ap (λ (x : EdgeOf). x.instr) (get_or-map edge_view es 0 e (edge_view e) some) in
    subst (λ (l : Layout). IsInstrOver l (instr_view (slice_index_or es 0 e).instr)) (sym is)
    (subst (λ (i : InstrOf ℕ). IsInstrOver (layout_of g n) i) instr first)
