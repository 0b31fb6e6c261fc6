-- Points of a graph and of the code.
use Rattle.std.proofs.Common.{◌≡◌, ◌<◌, ℕ, ap, ◌∙◌, sym, subst, List, length, map, slice_index_or}
use Rattle.std.proofs.lemmas.List.{get_or-map, length-map}
use Rattle.pk_graph.specs.declared.graphs.Scope.{Scope}
use Rattle.pk_graph.specs.declared.graphs.Point.{Point}
use Rattle.pk_graph.specs.Graphs.{point_view, no_point}

pub point_shown : (ss : List Scope) (ps : List Point) (k : ℕ) (p : Point) → k < length (map (point_view ss) ps) → p ≡ slice_index_or ps k p → slice_index_or (map (point_view ss) ps) k no_point ≡ point_view ss p
point_shown ss ps k p h e =
    get_or-map (point_view ss) ps k p no_point (subst (λ (n : ℕ). k < n) (length-map ps (point_view ss)) h) ∙ ap (point_view ss) (sym e)
