-- The graph of a typed draft.
use Rattle.std.proofs.Common.{◌≡◌, ◌<◌, ◌^◌, ℕ, zero, suc, refl, ap, ◌∙◌, sym, subst, true, List, [], ◌∷◌, ◌++◌, length, map, slice_index_or, slice_get, Option, Some, None, option_map, arith}
use Rattle.std.specs.List.{All, Contains}
use Rattle.std.specs.Option.{option_and_then}
use Rattle.std.proofs.lemmas.List.{length-map, get_or-map}
use Rattle.std.proofs.lemmas.List.Elements.{All-nil, All-cons, All-head, All-tail, All-push, All-filter, All-map, All-get_or, All-weaker}
use Rattle.std.proofs.lemmas.Option.{slice_get-map}
use Rattle.pk_graph.specs.declared.graphs.Entry.{Entry}
use Rattle.pk_graph.specs.declared.graphs.Scope.{Scope}
use Rattle.pk_graph.specs.Graphs.{PathOf, EdgeOf, PointOf, no_point, point_at, chained, scope_at}
use Rattle.pk_graph.specs.WellMade.{IsEdgeOf, IsPointOf, IsGraph}
use Rattle.pk_draft.specs.declared.drafts.Label.{Label}
use Rattle.pk_draft.specs.Drafts.{EdgeFrom, DraftOf, no_label, entry_point}
use Rattle.pk_number.specs.Preorders.{is_among, place_among}
use Rattle.pk_number.specs.Numbering.{is_from, edges_from, ends, reached, edge_of, point_of, numbered}
use Rattle.pk_number.specs.Typed.{IsTypedEdge, IsTypedDraft}
use Rattle.pk_number.specs.Ways.{draft_way, graph_way, IsReached, at_entry, along, IsNumbered}
use Rattle.pk_number.proofs.AmongLemmas.{among_there, among_at, at_place, place_at, place_inside}
use Rattle.pk_number.proofs.ReachedLemmas.{edge_to, end_among, reached_distinct, reached_first, entry_reached, entry_place, reached_below, reached_few, reached_closed, reached_all}

-- ---- names in scope

abbrev AreNames : ℕ → List Entry → Type 0
AreNames n xs = All (λ (e : Entry). e.variable < n) xs

names_at : (n : ℕ) (known : List (List Entry)) (k : ℕ) → All (AreNames n) known → AreNames n (slice_index_or known k [])
names_at n [] k h = All-nil (λ (e : Entry). e.variable < n)
names_at n (xs ∷ known) zero h = All-head (AreNames n) xs known h
names_at n (xs ∷ known) (suc k) h = names_at n known k (All-tail (AreNames n) xs known h)

abbrev IsNamed : ℕ → Scope → Type 0
IsNamed n s = s.entry.variable < n

names_chained : (n : ℕ) (known : List (List Entry)) (ss : List Scope) → All (AreNames n) known → All (IsNamed n) ss → All (AreNames n) (chained known ss)
names_chained n known [] h f = h
names_chained n known (s ∷ ss) h f =
    let named : AreNames n (s.entry ∷ slice_index_or known s.outer []) = All-cons (λ (e : Entry). e.variable < n) s.entry (slice_index_or known s.outer []) (All-head (IsNamed n) s ss f) (names_at n known s.outer h) in
    names_chained n (known ++ (s.entry ∷ slice_index_or known s.outer []) ∷ []) ss (All-push (AreNames n) known (s.entry ∷ slice_index_or known s.outer []) h named) (All-tail (IsNamed n) s ss f)

names_in_scope : (n : ℕ) (ss : List Scope) (k : ℕ) → All (IsNamed n) ss → AreNames n (scope_at ss k)
names_in_scope n ss k f =
    names_at n (chained ([] ∷ []) ss) k (names_chained n ([] ∷ []) ss (All-cons (AreNames n) [] [] (All-nil (λ (e : Entry). e.variable < n)) (All-nil (AreNames n))) f)

-- ---- it is a graph

ends_in : (d : DraftOf ℕ) → All (IsTypedEdge d) d.edges → All (λ (e : EdgeFrom ℕ). e.to < length d.labels) d.edges
ends_in d h = All-weaker (IsTypedEdge d) (λ (e : EdgeFrom ℕ). e.to < length d.labels) (λ e t. t.to) d.edges h

point_is : (paths : List PathOf) (d : DraftOf ℕ) (p : ℕ) → IsTypedDraft (length paths) d → is_among p (reached d.edges) ≡ true → IsPointOf (numbered paths d) (point_of (reached d.edges) d p)
point_is paths d p t h = record {
  path = All-get_or (λ (l : Label). l.path < length paths) d.labels p no_label (reached_below (length d.labels) d.edges t.entry (ends_in d t.edges) p h) t.labels;
  scope = names_in_scope (length d.made) d.scopes (slice_index_or d.labels p no_label).scope t.scopes;
  edges = All-map (IsEdgeOf (numbered paths d)) (edge_of (reached d.edges)) (edges_from p d.edges) each;
}
  where
    each : All (λ (e : EdgeFrom ℕ). IsEdgeOf (numbered paths d) (edge_of (reached d.edges) e)) (edges_from p d.edges)
    each k e below = record {
      leads_to_a_point = subst (λ (n : ℕ). place_among (reached d.edges) (slice_index_or (edges_from p d.edges) k e).to < n) (sym (length-map (reached d.edges) (point_of (reached d.edges) d)))
          (place_inside (reached d.edges) (slice_index_or (edges_from p d.edges) k e).to (reached_closed d.edges p (slice_index_or (edges_from p d.edges) k e).to h (end_among (edges_from p d.edges) k e below)));
      typed = (All-filter (is_from p) (IsTypedEdge d) d.edges t.edges k e below).typed;
    }

pub numbered_is_graph : (paths : List PathOf) (d : DraftOf ℕ) → IsTypedDraft (length paths) d → IsGraph (numbered paths d)
numbered_is_graph paths d t = record {
  entry = subst (λ (n : ℕ). 0 < n) (sym (length-map (reached d.edges) (point_of (reached d.edges) d))) (reached_first d.edges).0;
  few = subst (λ (n : ℕ). n < 2 ^ 31) (sym (length-map (reached d.edges) (point_of (reached d.edges) d))) (omega (arith, t.few, reached_few (length d.labels) d.edges t.entry (ends_in d t.edges)));
  points = All-map (IsPointOf (numbered paths d)) (point_of (reached d.edges) d) (reached d.edges) (λ k p below. point_is paths d (slice_index_or (reached d.edges) k p) t (among_at (reached d.edges) k p below));
  starts = t.starts;
}

-- ---- its ways

point_shown : (paths : List PathOf) (d : DraftOf ℕ) (p : ℕ) → is_among p (reached d.edges) ≡ true → point_at (numbered paths d) (place_among (reached d.edges) p) ≡ point_of (reached d.edges) d p
point_shown paths d p h =
    get_or-map (point_of (reached d.edges) d) (reached d.edges) (place_among (reached d.edges) p) 0 no_point (place_inside (reached d.edges) p h)
    ∙ ap (point_of (reached d.edges) d) (at_place (reached d.edges) p 0 h)

some_end : (fs : List (EdgeFrom ℕ)) (i : ℕ) (e : EdgeFrom ℕ) → slice_get fs i ≡ Some e → is_among e.to (map (λ (f : EdgeFrom ℕ). f.to) fs) ≡ true
some_end [] i e h = absurd (cc h)
some_end (f ∷ fs) zero e h =
    let is : f ≡ e = cc h in subst (λ (g : EdgeFrom ℕ). is_among g.to (map (λ (f : EdgeFrom ℕ). f.to) (f ∷ fs)) ≡ true) is (end_among (f ∷ fs) 0 f (omega arith))
some_end (f ∷ fs) (suc i) e h = among_there e.to f.to (map (λ (f : EdgeFrom ℕ). f.to) fs) (some_end fs i e h)

abbrev shown : List ℕ → Option (List (EdgeFrom ℕ)) → Option (List EdgeOf)
shown order = option_map (map (edge_of order))

-- one edge more
longer : (order : List ℕ) (e : EdgeFrom ℕ) (w : Option (List (EdgeFrom ℕ))) → option_map (λ (way : List EdgeOf). edge_of order e ∷ way) (shown order w) ≡ shown order (option_map (λ (way : List (EdgeFrom ℕ)). e ∷ way) w)
longer order e None = refl
longer order e (Some way) = refl

pub ways_shown : (paths : List PathOf) (d : DraftOf ℕ) (is : List ℕ) (p : ℕ) → is_among p (reached d.edges) ≡ true
    → graph_way (numbered paths d) (place_among (reached d.edges) p) is ≡ shown (reached d.edges) (draft_way d.edges p is)
ways_shown paths d [] p h = refl
ways_shown paths d (i ∷ is) p h =
    ap (λ (x : PointOf). option_and_then next (slice_get x.edges i)) (point_shown paths d p h)
    ∙ ap (option_and_then next) (slice_get-map (edge_of (reached d.edges)) (edges_from p d.edges) i)
    ∙ told (slice_get (edges_from p d.edges) i) (some_end (edges_from p d.edges) i) (ways_shown paths d is)
  where
    next : EdgeOf → Option (List EdgeOf)
    next e = option_map (λ (way : List EdgeOf). e ∷ way) (graph_way (numbered paths d) e.to is)

    told : (o : Option (EdgeFrom ℕ)) → ((e : EdgeFrom ℕ) → o ≡ Some e → is_among e.to (ends d.edges p) ≡ true)
        → ((q : ℕ) → is_among q (reached d.edges) ≡ true → graph_way (numbered paths d) (place_among (reached d.edges) q) is ≡ shown (reached d.edges) (draft_way d.edges q is))
        → option_and_then next (option_map (edge_of (reached d.edges)) o)
        ≡ shown (reached d.edges) (option_and_then (λ (e : EdgeFrom ℕ). option_map (λ (way : List (EdgeFrom ℕ)). e ∷ way) (draft_way d.edges e.to is)) o)
    told None f g = refl
    told (Some e) f g =
        ap (option_map (λ (way : List EdgeOf). edge_of (reached d.edges) e ∷ way)) (g e.to (reached_closed d.edges p e.to h (f e refl)))
        ∙ longer (reached d.edges) e (draft_way d.edges e.to is)

-- ---- its points are reached

abbrev IsAt : List PathOf → DraftOf ℕ → ℕ → Type 0
IsAt paths d p = (is_among p (reached d.edges) ≡ true) × IsReached (numbered paths d) (place_among (reached d.edges) p)

pub contains_map : {X Y : Type 0} (f : X → Y) (xs : List X) (x : X) → Contains xs x → Contains (map f xs) (f x)
contains_map f xs x h = (h.0, subst (λ (n : ℕ). h.0 < n) (sym (length-map xs f)) h.1, get_or-map f xs h.0 x (f x) h.1 ∙ ap f h.2)

one_further : (paths : List PathOf) (d : DraftOf ℕ) (p q : ℕ) → IsAt paths d p → is_among q (ends d.edges p) ≡ true → IsAt paths d q
one_further paths d p q h e =
    let edge = edge_to q (edges_from p d.edges) e in
    let there : Contains (point_at (numbered paths d) (place_among (reached d.edges) p)).edges (edge_of (reached d.edges) edge.0) =
    subst (λ (x : PointOf). Contains x.edges (edge_of (reached d.edges) edge.0)) (sym (point_shown paths d p h.0)) (contains_map (edge_of (reached d.edges)) (edges_from p d.edges) edge.0 edge.1) in
    (reached_closed d.edges p q h.0 e, subst (λ (n : ℕ). IsReached (numbered paths d) (place_among (reached d.edges) n)) edge.2 (along h.1 (edge_of (reached d.edges) edge.0) there))

pub points_reached : (paths : List PathOf) (d : DraftOf ℕ) (k : ℕ) → k < length (numbered paths d).points → IsReached (numbered paths d) k
points_reached paths d k h =
    let below : k < length (reached d.edges) = subst (λ (n : ℕ). k < n) (length-map (reached d.edges) (point_of (reached d.edges) d)) h in
    let first : IsAt paths d entry_point = (entry_reached d.edges, subst (IsReached (numbered paths d)) (sym (entry_place d.edges)) at_entry) in
    let all = reached_all d.edges (IsAt paths d) first (one_further paths d) (slice_index_or (reached d.edges) k 0) (among_at (reached d.edges) k 0 below) in
    subst (IsReached (numbered paths d)) (place_at (reached d.edges) k 0 (reached_distinct d.edges) below) all.1

pub numbering_holds : (paths : List PathOf) (d : DraftOf ℕ) → IsTypedDraft (length paths) d → IsNumbered paths d
numbering_holds paths d t = record {
  is_graph = numbered_is_graph paths d t;
  all_reached = points_reached paths d;
  same_ways = λ is. ap (λ (n : ℕ). graph_way (numbered paths d) n is) (sym (entry_place d.edges)) ∙ ways_shown paths d is entry_point (entry_reached d.edges);
}
