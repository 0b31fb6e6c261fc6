-- The digraph, point by point.
use Rattle.std.proofs.Common.{◌≡◌, ◌<◌, ◌+◌, ℕ, zero, suc, refl, ap, ◌∙◌, sym, subst, List, [], ◌∷◌, ◌++◌, length, take, map, Contains, All}
use Rattle.std.specs.List.{slice_index_or}
use Rattle.std.specs.Global.{Vec}
use Rattle.std.proofs.lemmas.List.{map-append, take_more, length-map}
use Rattle.std.proofs.lemmas.List.Elements.{All-nil, All-head, All-tail, All-map}
use Rattle.pk_graph.specs.Graphs.{EdgeOf, PointOf, GraphOf, no_point, point_at}
use Rattle.pk_graph.specs.WellMade.{IsGraph}
use Rattle.pk_plan.specs.Digraphs.{IsClosed}
use Rattle.pk_analysis.specs.Arrows.{rows_of}
use Rattle.pk_analysis.specs.Digraphs.{targets_of, digraph_of}
use Rattle.pk_analysis.proofs.ArrowLemmas.{edges_below}

abbrev pub row_of : PointOf → List ℕ
row_of p = targets_of p.edges

pub rows_next : (ps : List PointOf) (u : ℕ) (old new : List (Vec ℕ)) (v : Vec ℕ) → u < length ps → rows_of old ≡ map row_of (take u ps) → new ≡ old ++ v ∷ [] → v.items ≡ row_of (slice_index_or ps u no_point) → rows_of new ≡ map row_of (take (u + 1) ps)
rows_next ps u old new v h so made is =
    ap (λ (vs : List (Vec ℕ)). rows_of vs) made ∙ map-append (λ (w : Vec ℕ). w.items) old (v ∷ [])
    ∙ ap (λ (rows : List (List ℕ)). rows ++ v.items ∷ []) so ∙ ap (λ (row : List ℕ). map row_of (take u ps) ++ row ∷ []) is
    ∙ sym (map-append row_of (take u ps) (slice_index_or ps u no_point ∷ []))
    ∙ ap (λ (qs : List PointOf). map row_of qs) (sym (take_more ps u no_point h))

row_is : (ps : List PointOf) (u : ℕ) → slice_index_or (map row_of ps) u [] ≡ row_of (slice_index_or ps u no_point)
row_is [] u = refl
row_is (p ∷ ps) zero = refl
row_is (p ∷ ps) (suc u) = row_is ps u

below_at : (n : ℕ) (ps : List PointOf) (u : ℕ) → All (λ (p : PointOf). All (λ (e : EdgeOf). e.to < n) p.edges) ps → All (λ (e : EdgeOf). e.to < n) (slice_index_or ps u no_point).edges
below_at n [] u h = All-nil (λ (e : EdgeOf). e.to < n)
below_at n (p ∷ ps) zero h = All-head (λ (q : PointOf). All (λ (e : EdgeOf). e.to < n) q.edges) p ps h
below_at n (p ∷ ps) (suc u) h = below_at n ps u (All-tail (λ (q : PointOf). All (λ (e : EdgeOf). e.to < n) q.edges) p ps h)

-- the edges that begin at a point lead to points
pub leads_below : (g : GraphOf) (u : ℕ) → IsGraph g → All (λ (e : EdgeOf). e.to < length g.points) (point_at g u).edges
leads_below g u made = below_at (length g.points) g.points u (edges_below g made)

pub closed : (g : GraphOf) → IsGraph g → IsClosed (digraph_of g)
closed g made u v has =
    let all = All-map (λ (x : ℕ). x < length g.points) (λ (e : EdgeOf). e.to) (point_at g u).edges (leads_below g u made) in
    let moved = subst (λ (row : List ℕ). Contains row v) (row_is g.points u) has in
    subst (λ (n : ℕ). v < n) (sym (length-map g.points row_of)) (subst (λ (x : ℕ). x < length g.points) moved.2 (all moved.0 v moved.1))
