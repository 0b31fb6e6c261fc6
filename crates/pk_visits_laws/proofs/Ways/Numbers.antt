-- The edges of a numbered point are those of its draft, but for edges that lead nowhere.
use Rattle.std.proofs.Common.{◌≡◌, ℕ, List, [], ◌∷◌, Bool, true, false, not, ◌&&◌, if◌then◌else◌, refl, sym, ap, subst, nat_eq}
use Rattle.std.specs.Prelude.{map, All}
use Rattle.std.specs.List.{filter}
use Rattle.std.proofs.lemmas.List.Elements.{All-map}
use Rattle.pk_graph.specs.Graphs.{PathOf, PointOf}
use Rattle.pk_draft.specs.Drafts.{EdgeFrom, DraftOf, nowhere}
use Rattle.pk_number.specs.Numbering.{edges_from, edge_of, point_of, reached, numbered}
use Rattle.pk_visits_laws.specs.Ways.OneWay.{IsOneWay}
use Rattle.pk_visits_laws.proofs.Ways.Ways.{from, IsWay}

abbrev leads : EdgeFrom ℕ → Bool
leads e = not (nat_eq e.to nowhere)

edges_are : (p : ℕ) (es : List (EdgeFrom ℕ)) → edges_from p es ≡ filter leads (from p es)
edges_are p [] = refl
edges_are p (e ∷ es) = step (nat_eq e.from p) (edges_are p es) where
  step : (b : Bool) → edges_from p es ≡ filter leads (from p es) → (if b && leads e then e ∷ edges_from p es else edges_from p es) ≡ filter leads (if b then e ∷ from p es else from p es)
  step true r = ap (λ fs. if leads e then e ∷ fs else fs) r
  step false r = r

one_way : (order : List ℕ) (es : List (EdgeFrom ℕ)) → IsWay es → IsOneWay (map (edge_of order) (filter leads es))
one_way order [] h = tt
one_way order (e ∷ []) h = by (leads e) where
  by : (b : Bool) → IsOneWay (map (edge_of order) (if b then e ∷ [] else []))
  by true = tt
  by false = tt
one_way order (e ∷ f ∷ []) h = by (leads e) (leads f) where
  by : (b c : Bool) → IsOneWay (map (edge_of order) (if b then e ∷ (if c then f ∷ [] else []) else (if c then f ∷ [] else [])))
  by true true = h
  by true false = tt
  by false true = tt
  by false false = tt
one_way order (e ∷ f ∷ g ∷ es) h = absurd h

point_way : (order : List ℕ) (d : DraftOf ℕ) (p : ℕ) → IsWay (from p d.edges) → IsOneWay (point_of order d p).edges
point_way order d p h = subst (λ es. IsOneWay (map (edge_of order) es)) (sym (edges_are p d.edges)) (one_way order (from p d.edges) h)

pub points_way : (paths : List PathOf) (d : DraftOf ℕ) → ((x : ℕ) → IsWay (from x d.edges)) → All (λ (p : PointOf). IsOneWay p.edges) (numbered paths d).points
points_way paths d h = All-map (λ (p : PointOf). IsOneWay p.edges) (point_of (reached d.edges) d) (reached d.edges) (λ k i lt. point_way (reached d.edges) d _ (h _))
