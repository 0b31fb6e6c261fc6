-- What the steps make is the graph of the draft.
use mathlib.Core.Path.{fun_ext}
use lib.Dec.{leb}
use Rattle.std.proofs.Common.{◌≡◌, ◌≢◌, ◌<◌, ◌≤◌, ◌+◌, ℕ, refl, ap, ◌∙◌, sym, subst, nat_eq, Bool, true, false, not, ◌&&◌, cond, ◌⊎◌, inl, inr, List, [], ◌∷◌, length, map, slice_index_or, arith}
use Rattle.std.specs.List.{All}
use Rattle.std.proofs.lemmas.Bool.Decides.{eqb_tells, leb_tells}
use Rattle.std.proofs.lemmas.List.{get_or_past, length-map}
use Rattle.std.proofs.lemmas.List.Elements.{All-head, All-tail, All-filter, All-map, All-weaker}
use Rattle.pk_graph.specs.declared.graphs.Scope.{Scope}
use Rattle.pk_graph.specs.declared.graphs.Point.{Point}
use Rattle.pk_graph.specs.declared.graphs.Path.{Path}
use Rattle.pk_graph.specs.declared.graphs.Variable.{Variable}
use Rattle.pk_graph.specs.Graphs.{VariableOf, EdgeOf, PointOf, GraphOf, path_view, variable_view, scope_at, point_view, graph_of}
use Rattle.pk_graph.specs.WellMade.{IsGraph}
use Rattle.pk_draft.specs.declared.drafts.Label.{Label}
use Rattle.pk_draft.specs.Drafts.{EdgeFrom, DraftOf, nowhere, no_label}
use Rattle.pk_number.specs.Preorders.{is_among, preorder}
use Rattle.pk_number.specs.Numbering.{is_from, edges_from, ends, reached, edge_of, point_of, numbered}
use Rattle.pk_number.specs.Typed.{IsTypedEdge, IsTypedDraft}
use Rattle.pk_number.specs.Rows.{bare, row_at, AreRows, ends_in, AreBelow, AreNumbers, renumbered, Placed, placed_view, placed}
use Rattle.pk_number.proofs.AmongLemmas.{among_here, among_there}
use Rattle.pk_number.proofs.ReachedLemmas.{ends_below, end_among, reached_closed}
use Rattle.pk_number.proofs.NumberedLemmas.{numbered_is_graph}

-- ---- the walk along the rows

no_edges : (n p : ℕ) (es : List (EdgeFrom ℕ)) → All (λ (e : EdgeFrom ℕ). e.from < n) es → n ≤ p → edges_from p es ≡ []
no_edges n p [] h f = refl
no_edges n p (e ∷ es) h f =
    ap (λ (b : Bool). cond b (e ∷ edges_from p es) (edges_from p es)) (other (eqb_tells e.from p))
    ∙ no_edges n p es (All-tail (λ (e : EdgeFrom ℕ). e.from < n) e es h) f
  where
    other : ((nat_eq e.from p ≡ true) × (e.from ≡ p)) ⊎ ((nat_eq e.from p ≡ false) × (e.from ≢ p)) → is_from p e ≡ false
    other (inl g) = absurd (omega (arith, g.1, f, All-head (λ (e : EdgeFrom ℕ). e.from < n) e es h))
    other (inr g) = ap (λ (b : Bool). b && not (nat_eq e.to nowhere)) g.0

pub row_is : (n : ℕ) (es : List (EdgeFrom ℕ)) (rows : List (List EdgeOf)) (p : ℕ) → All (λ (e : EdgeFrom ℕ). e.from < n) es → AreRows n es rows → row_at rows p ≡ map bare (edges_from p es)
row_is n es rows p h r = told (leb_tells n p)
  where
    told : ((leb n p ≡ true) × (n ≤ p)) ⊎ ((leb n p ≡ false) × (p < n)) → row_at rows p ≡ map bare (edges_from p es)
    told (inl g) = get_or_past rows p [] (subst (λ (m : ℕ). m ≤ p) (sym r.size) g.1) ∙ ap (map bare) (sym (no_edges n p es h g.1))
    told (inr g) = r.each p g.1

bare_ends : (fs : List (EdgeFrom ℕ)) → map (λ (e : EdgeOf). e.to) (map bare fs) ≡ map (λ (e : EdgeFrom ℕ). e.to) fs
bare_ends [] = refl
bare_ends (f ∷ fs) = ap (λ (xs : List ℕ). f.to ∷ xs) (bare_ends fs)

pub ends_are : (n : ℕ) (es : List (EdgeFrom ℕ)) (rows : List (List EdgeOf)) → All (λ (e : EdgeFrom ℕ). e.from < n) es → AreRows n es rows → ends_in rows ≡ ends es
ends_are n es rows h r = fun_ext (λ p. ap (map (λ (e : EdgeOf). e.to)) (row_is n es rows p h r) ∙ bare_ends (edges_from p es))

-- ---- edges with numbers

map_same : {X Y : Type 0} (f g : X → Y) (xs : List X) → All (λ x. f x ≡ g x) xs → map f xs ≡ map g xs
map_same f g [] h = refl
map_same f g (x ∷ xs) h =
    ap (λ y. y ∷ map f xs) (All-head (λ x. f x ≡ g x) x xs h) ∙ ap (λ ys. g x ∷ ys) (map_same f g xs (All-tail (λ x. f x ≡ g x) x xs h))

numbered_bare : (ns : List ℕ) (fs : List (EdgeFrom ℕ)) → map (renumbered ns) (map bare fs) ≡ map (λ (e : EdgeFrom ℕ). renumbered ns (bare e)) fs
numbered_bare ns [] = refl
numbered_bare ns (f ∷ fs) = ap (λ (xs : List EdgeOf). renumbered ns (bare f) ∷ xs) (numbered_bare ns fs)

pub edges_are : (n p : ℕ) (es : List (EdgeFrom ℕ)) (rows : List (List EdgeOf)) (ns : List ℕ) → All (λ (e : EdgeFrom ℕ). e.from < n) es → AreRows n es rows → AreNumbers n (reached es) ns → is_among p (reached es) ≡ true
    → map (renumbered ns) (row_at rows p) ≡ map (edge_of (reached es)) (edges_from p es)
edges_are n p es rows ns h r m i =
    ap (map (renumbered ns)) (row_is n es rows p h r)
    ∙ numbered_bare ns (edges_from p es)
    ∙ map_same (λ (e : EdgeFrom ℕ). renumbered ns (bare e)) (edge_of (reached es)) (edges_from p es) each
  where
    each : All (λ (e : EdgeFrom ℕ). renumbered ns (bare e) ≡ edge_of (reached es) e) (edges_from p es)
    each k d g =
        let e : EdgeFrom ℕ = slice_index_or (edges_from p es) k d in
        ap (λ (q : ℕ). let x : EdgeOf = record { instr = e.instr; to = q } in x) (m.each e.to (reached_closed es p e.to i (end_among (edges_from p es) k d g)))

-- ---- points

abbrev shown : List Scope → Placed → PointOf
shown ss q = record { at = q.label.at; path = q.label.path; scope = scope_at ss q.label.scope; edges = q.edges }

points_shown : (ss : List Scope) (ps : List Point) → map (point_view ss) ps ≡ map (shown ss) (map placed_view ps)
unfolding point_view placed_view
points_shown ss [] = refl
points_shown ss (p ∷ ps) = ap (λ (xs : List PointOf). point_view ss p ∷ xs) (points_shown ss ps)

map_among : (xs : List ℕ) (f : ℕ → PointOf) (g : ℕ → Placed) (h : Placed → PointOf) → ((x : ℕ) → is_among x xs ≡ true → h (g x) ≡ f x) → map h (map g xs) ≡ map f xs
map_among [] f g h e = refl
map_among (x ∷ xs) f g h e =
    ap (λ (y : PointOf). y ∷ map h (map g xs)) (e x (among_here x xs)) ∙ ap (λ (ys : List PointOf). f x ∷ ys) (map_among xs f g h (λ y i. e y (among_there y x xs i)))

-- the points of a draft
pub points_are : (d : DraftOf ℕ) (rows : List (List EdgeOf)) (ns : List ℕ) (ps : List Point) → All (λ (e : EdgeFrom ℕ). e.from < length d.labels) d.edges → AreRows (length d.labels) d.edges rows
    → AreNumbers (length d.labels) (reached d.edges) ns → map placed_view ps ≡ map (placed d.labels rows ns) (reached d.edges) → map (point_view d.scopes) ps ≡ map (point_of (reached d.edges) d) (reached d.edges)
points_are d rows ns ps h r m e =
    points_shown d.scopes ps
    ∙ ap (map (shown d.scopes)) e
    ∙ map_among (reached d.edges) (point_of (reached d.edges) d) (placed d.labels rows ns) (shown d.scopes) each
  where
    each : (p : ℕ) → is_among p (reached d.edges) ≡ true → shown d.scopes (placed d.labels rows ns p) ≡ point_of (reached d.edges) d p
    each p i =
        ap (λ (xs : List EdgeOf). let l : Label = slice_index_or d.labels p no_label in let x : PointOf = record { at = l.at; path = l.path; scope = scope_at d.scopes l.scope; edges = xs } in x)
        (edges_are (length d.labels) p d.edges rows ns h r m i)

-- ---- what the steps ask for

pub froms : (k : ℕ) (d : DraftOf ℕ) → IsTypedDraft k d → All (λ (e : EdgeFrom ℕ). e.from < length d.labels) d.edges
froms k d t = All-weaker (IsTypedEdge d) (λ (e : EdgeFrom ℕ). e.from < length d.labels) (λ e h. h.from) d.edges t.edges

pub tos : (k : ℕ) (d : DraftOf ℕ) → IsTypedDraft k d → All (λ (e : EdgeFrom ℕ). e.to < length d.labels) d.edges
tos k d t = All-weaker (IsTypedEdge d) (λ (e : EdgeFrom ℕ). e.to < length d.labels) (λ e h. h.to) d.edges t.edges

pub row_ends : (k : ℕ) (d : DraftOf ℕ) (rows : List (List EdgeOf)) (p : ℕ) → IsTypedDraft k d → AreRows (length d.labels) d.edges rows → All (λ (e : EdgeOf). e.to < length d.labels) (row_at rows p)
row_ends k d rows p t r =
    subst (λ (xs : List EdgeOf). All (λ (e : EdgeOf). e.to < length d.labels) xs) (sym (row_is (length d.labels) d.edges rows p (froms k d t) r))
    (All-map (λ (e : EdgeOf). e.to < length d.labels) bare (edges_from p d.edges) (All-filter (is_from p) (λ (e : EdgeFrom ℕ). e.to < length d.labels) d.edges (tos k d t)))

pub ends_inside : (k : ℕ) (d : DraftOf ℕ) (rows : List (List EdgeOf)) (p : ℕ) → IsTypedDraft k d → AreRows (length d.labels) d.edges rows → AreBelow (length d.labels) (ends_in rows p)
ends_inside k d rows p t r =
    subst (λ (f : ℕ → List ℕ). AreBelow (length d.labels) (f p)) (sym (ends_are (length d.labels) d.edges rows (froms k d t) r)) (ends_below (length d.labels) d.edges (tos k d t) p)

pub order_is : (k : ℕ) (d : DraftOf ℕ) (rows : List (List EdgeOf)) (turns : ℕ) (order : List ℕ) → IsTypedDraft k d → AreRows (length d.labels) d.edges rows → turns ≡ length d.edges + 2
    → order ≡ preorder (ends_in rows) turns (1 ∷ []) [] → order ≡ reached d.edges
order_is k d rows turns order t r e f =
    let swap : length d.edges + 2 ≡ 2 + length d.edges = omega arith in
    f ∙ ap (λ (n : ℕ). preorder (ends_in rows) n (1 ∷ []) []) (e ∙ swap) ∙ ap (λ (g : ℕ → List ℕ). preorder g (2 + length d.edges) (1 ∷ []) []) (ends_are (length d.labels) d.edges rows (froms k d t) r)

pub graph_is : (paths : List Path) (vs : List Variable) (ss : List Scope) (ps : List Point) (d : DraftOf ℕ) (rows : List (List EdgeOf)) (ns : List ℕ) → map variable_view vs ≡ d.made → ss ≡ d.scopes
    → All (λ (e : EdgeFrom ℕ). e.from < length d.labels) d.edges → AreRows (length d.labels) d.edges rows → AreNumbers (length d.labels) (reached d.edges) ns
    → map placed_view ps ≡ map (placed d.labels rows ns) (reached d.edges) → graph_of paths vs ss ps ≡ numbered (map path_view paths) d
graph_is paths vs ss ps d rows ns v s h r m e =
    ap (λ (xs : List VariableOf). let g : GraphOf = record { paths = map path_view paths; variables = xs; points = map (point_view ss) ps } in g) v
    ∙ ap (λ (xs : List Scope). let g : GraphOf = record { paths = map path_view paths; variables = d.made; points = map (point_view xs) ps } in g) s
    ∙ ap (λ (xs : List PointOf). let g : GraphOf = record { paths = map path_view paths; variables = d.made; points = xs } in g) (points_are d rows ns ps h r m e)

pub graph_well_made : (paths : List Path) (d : DraftOf ℕ) → IsTypedDraft (length paths) d → IsGraph (numbered (map path_view paths) d)
graph_well_made paths d t = numbered_is_graph (map path_view paths) d (subst (λ (n : ℕ). IsTypedDraft n d) (sym (length-map paths path_view)) t)
