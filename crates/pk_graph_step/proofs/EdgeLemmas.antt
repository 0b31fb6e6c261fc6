-- The edges of a graph's points.
use Rattle.std.proofs.Common.{◌≡◌, ◌<◌, ℕ, ap, ◌∙◌, sym, subst, List, length, map, slice_index_or}
use Rattle.std.proofs.lemmas.List.{length-map, get_or-map}
use Rattle.pk_graph.specs.declared.graphs.Edge.{Edge}
use Rattle.pk_graph.specs.Kinds.{IsTypedInstr}
use Rattle.pk_graph.specs.Graphs.{EdgeOf, GraphOf, no_point, point_at, edge_view, kinds_of}
use Rattle.pk_graph.specs.WellMade.{IsGraph}
use Rattle.pk_graph_step.specs.GraphSteps.{no_edge}

pub edge_is : (g : GraphOf) (p k : ℕ) (es : List Edge) (e : Edge) → map edge_view es ≡ (point_at g p).edges → k < length (point_at g p).edges → e ≡ slice_index_or es k e → (d : EdgeOf) → slice_index_or (point_at g p).edges k d ≡ edge_view e
edge_is g p k es e f h is d =
    ap (λ (xs : List EdgeOf). slice_index_or xs k d) (sym f)
    ∙ get_or-map edge_view es k e d (subst (λ (n : ℕ). k < n) (ap (λ (xs : List EdgeOf). length xs) (sym f) ∙ length-map es edge_view) h)
    ∙ ap edge_view (sym is)

pub edge_typed : (g : GraphOf) (p k : ℕ) (es : List Edge) (e : Edge) → IsGraph g → p < length g.points → map edge_view es ≡ (point_at g p).edges → k < length (point_at g p).edges → e ≡ slice_index_or es k e
    → IsTypedInstr (kinds_of g) (edge_view e).instr
edge_typed g p k es e m i f h is =
    subst (λ (x : EdgeOf). IsTypedInstr (kinds_of g) x.instr) (edge_is g p k es e f h is no_edge) ((m.points p no_point i).edges k no_edge h).typed
