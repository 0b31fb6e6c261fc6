use Rattle.std.proofs.Common.{◌≡◌, ◌<◌, ◌+◌, ◌∙◌, ℕ, ap, sym, subst, List, [], ◌∷◌, length, map, All}
use Rattle.std.specs.declared.vec.Vec.{Vec}
use Rattle.std.specs.declared.alloc.Global.{Global}
use Rattle.std.proofs.lemmas.List.{length-map}
use Rattle.pk_graph.specs.declared.graphs.Edge.{Edge}
use Rattle.pk_graph.specs.Graphs.{EdgeOf, GraphOf, path_view, graph_of}
use Rattle.pk_graph.specs.WellMade.{IsGraph}
use Rattle.pk_draft.specs.declared.drafts.Label.{Label}
use Rattle.pk_draft.specs.Drafts.{EdgeFrom, DraftOf}
use Rattle.pk_draft.specs.Answers.{edge_view}
use Rattle.pk_draft.specs.Shown.{drafted}
use Rattle.pk_number.specs.Preorders.{preorder}
use Rattle.pk_number.specs.Numbering.{reached, numbered}
use Rattle.pk_number.specs.Rows.{rows_view, row_at, AreRows, ends_in, AreBelow, AreNumbers, IsDistinct, placed_view, placed}
use Rattle.pk_number.proofs.RowLemmas.{rows_size}
use Rattle.pk_number.proofs.ReachedLemmas.{reached_distinct, reached_below}
use Rattle.pk_number.proofs.GraphLemmas.{froms, tos, row_ends, ends_inside, order_is, graph_is, graph_well_made}
use Rattle.pk_number.proofs.numbering.number.Goals as goal

pub walked-requires-clause-ends : goal.walked-requires-clause-ends
walked-requires-clause-ends c =
    let d : DraftOf ℕ = drafted c.args.draft in
    let count : c.len-count.result ≡ length d.labels = c.len-count.ensures ∙ c.parts-parts.result.labels.ok.0 ∙ ap (λ (xs : List Label). length xs) c.parts-parts.ensures.labels in
    let rows : AreRows (length d.labels) d.edges (rows_view c.in_ok-rows.rows.items) =
    subst (λ (n : ℕ). AreRows n d.edges (rows_view c.in_ok-rows.rows.items)) count
    (subst (λ (es : List (EdgeFrom ℕ)). AreRows c.len-count.result es (rows_view c.in_ok-rows.rows.items)) c.parts-parts.ensures.edges c.in_ok-rows.ensures) in
    λ p.
    subst (λ (rs : List (Vec Edge Global)). AreBelow (length rs) (ends_in (rows_view rs) p)) (sym c.deref.ensures.value)
    (subst (λ (n : ℕ). AreBelow n (ends_in (rows_view c.in_ok-rows.rows.items) p)) (sym (rows_size (length d.labels) d.edges c.in_ok-rows.rows.items rows))
    (ends_inside (length c.args.paths.items) d (rows_view c.in_ok-rows.rows.items) p c.requires rows))

pub numbers_of-requires : goal.numbers_of-requires
numbers_of-requires c =
    let d : DraftOf ℕ = drafted c.args.draft in
    let count : c.len-count.result ≡ length d.labels = c.len-count.ensures ∙ c.parts-parts.result.labels.ok.0 ∙ ap (λ (xs : List Label). length xs) c.parts-parts.ensures.labels in
    let rows : AreRows (length d.labels) d.edges (rows_view c.in_ok-rows.rows.items) =
    subst (λ (n : ℕ). AreRows n d.edges (rows_view c.in_ok-rows.rows.items)) count
    (subst (λ (es : List (EdgeFrom ℕ)). AreRows c.len-count.result es (rows_view c.in_ok-rows.rows.items)) c.parts-parts.ensures.edges c.in_ok-rows.ensures) in
    let turns : c.len-turns.result + 2 ≡ length d.edges + 2 =
    ap (λ (n : ℕ). n + 2) (c.len-turns.ensures ∙ c.parts-parts.result.edges.ok.0 ∙ sym (length-map c.parts-parts.result.edges.items edge_view) ∙ ap (λ (es : List (EdgeFrom ℕ)). length es) c.parts-parts.ensures.edges) in
    let order : c.in_ok-order.order.items ≡ reached d.edges =
    order_is (length c.args.paths.items) d (rows_view c.in_ok-rows.rows.items) (c.len-turns.result + 2) c.in_ok-order.order.items c.requires rows turns
    (c.in_ok-order.ensures ∙ ap (λ (rs : List (Vec Edge Global)). preorder (ends_in (rows_view rs)) (c.len-turns.result + 2) (1 ∷ []) []) c.deref.ensures.value) in
    subst (λ (xs : List ℕ). AreBelow c.len-count.result xs) (sym (c.deref-2.ensures.value ∙ order))
    (subst (λ (n : ℕ). AreBelow n (reached d.edges)) (sym count) (reached_below (length d.labels) d.edges c.requires.entry (tos (length c.args.paths.items) d c.requires)))

pub points_of-requires-clause-below : goal.points_of-requires-clause-below
points_of-requires-clause-below c =
    let d : DraftOf ℕ = drafted c.args.draft in
    let count : c.len-count.result ≡ length d.labels = c.len-count.ensures ∙ c.parts-parts.result.labels.ok.0 ∙ ap (λ (xs : List Label). length xs) c.parts-parts.ensures.labels in
    let rows : AreRows (length d.labels) d.edges (rows_view c.in_ok-rows.rows.items) =
    subst (λ (n : ℕ). AreRows n d.edges (rows_view c.in_ok-rows.rows.items)) count
    (subst (λ (es : List (EdgeFrom ℕ)). AreRows c.len-count.result es (rows_view c.in_ok-rows.rows.items)) c.parts-parts.ensures.edges c.in_ok-rows.ensures) in
    let turns : c.len-turns.result + 2 ≡ length d.edges + 2 =
    ap (λ (n : ℕ). n + 2) (c.len-turns.ensures ∙ c.parts-parts.result.edges.ok.0 ∙ sym (length-map c.parts-parts.result.edges.items edge_view) ∙ ap (λ (es : List (EdgeFrom ℕ)). length es) c.parts-parts.ensures.edges) in
    let order : c.in_ok-order.order.items ≡ reached d.edges =
    order_is (length c.args.paths.items) d (rows_view c.in_ok-rows.rows.items) (c.len-turns.result + 2) c.in_ok-order.order.items c.requires rows turns
    (c.in_ok-order.ensures ∙ ap (λ (rs : List (Vec Edge Global)). preorder (ends_in (rows_view rs)) (c.len-turns.result + 2) (1 ∷ []) []) c.deref.ensures.value) in
    subst (λ (xs : List ℕ). AreBelow (length c.deref-3.result.now) xs) (sym (c.deref-4.ensures.value ∙ order))
    (subst (λ (ls : List Label). AreBelow (length ls) (reached d.edges)) (sym (c.deref-3.ensures.value ∙ c.parts-parts.ensures.labels)) (reached_below (length d.labels) d.edges c.requires.entry (tos (length c.args.paths.items) d c.requires)))

pub points_of-requires-clause-distinct : goal.points_of-requires-clause-distinct
points_of-requires-clause-distinct c =
    let d : DraftOf ℕ = drafted c.args.draft in
    let count : c.len-count.result ≡ length d.labels = c.len-count.ensures ∙ c.parts-parts.result.labels.ok.0 ∙ ap (λ (xs : List Label). length xs) c.parts-parts.ensures.labels in
    let rows : AreRows (length d.labels) d.edges (rows_view c.in_ok-rows.rows.items) =
    subst (λ (n : ℕ). AreRows n d.edges (rows_view c.in_ok-rows.rows.items)) count
    (subst (λ (es : List (EdgeFrom ℕ)). AreRows c.len-count.result es (rows_view c.in_ok-rows.rows.items)) c.parts-parts.ensures.edges c.in_ok-rows.ensures) in
    let turns : c.len-turns.result + 2 ≡ length d.edges + 2 =
    ap (λ (n : ℕ). n + 2) (c.len-turns.ensures ∙ c.parts-parts.result.edges.ok.0 ∙ sym (length-map c.parts-parts.result.edges.items edge_view) ∙ ap (λ (es : List (EdgeFrom ℕ)). length es) c.parts-parts.ensures.edges) in
    let order : c.in_ok-order.order.items ≡ reached d.edges =
    order_is (length c.args.paths.items) d (rows_view c.in_ok-rows.rows.items) (c.len-turns.result + 2) c.in_ok-order.order.items c.requires rows turns
    (c.in_ok-order.ensures ∙ ap (λ (rs : List (Vec Edge Global)). preorder (ends_in (rows_view rs)) (c.len-turns.result + 2) (1 ∷ []) []) c.deref.ensures.value) in
    subst (λ (xs : List ℕ). IsDistinct xs) (sym (c.deref-4.ensures.value ∙ order)) (reached_distinct d.edges)

pub points_of-requires-clause-ends : goal.points_of-requires-clause-ends
points_of-requires-clause-ends c =
    let d : DraftOf ℕ = drafted c.args.draft in
    let count : c.len-count.result ≡ length d.labels = c.len-count.ensures ∙ c.parts-parts.result.labels.ok.0 ∙ ap (λ (xs : List Label). length xs) c.parts-parts.ensures.labels in
    let rows : AreRows (length d.labels) d.edges (rows_view c.in_ok-rows.rows.items) =
    subst (λ (n : ℕ). AreRows n d.edges (rows_view c.in_ok-rows.rows.items)) count
    (subst (λ (es : List (EdgeFrom ℕ)). AreRows c.len-count.result es (rows_view c.in_ok-rows.rows.items)) c.parts-parts.ensures.edges c.in_ok-rows.ensures) in
    let turns : c.len-turns.result + 2 ≡ length d.edges + 2 =
    ap (λ (n : ℕ). n + 2) (c.len-turns.ensures ∙ c.parts-parts.result.edges.ok.0 ∙ sym (length-map c.parts-parts.result.edges.items edge_view) ∙ ap (λ (es : List (EdgeFrom ℕ)). length es) c.parts-parts.ensures.edges) in
    let order : c.in_ok-order.order.items ≡ reached d.edges =
    order_is (length c.args.paths.items) d (rows_view c.in_ok-rows.rows.items) (c.len-turns.result + 2) c.in_ok-order.order.items c.requires rows turns
    (c.in_ok-order.ensures ∙ ap (λ (rs : List (Vec Edge Global)). preorder (ends_in (rows_view rs)) (c.len-turns.result + 2) (1 ∷ []) []) c.deref.ensures.value) in
    let numbers : AreNumbers (length d.labels) (reached d.edges) c.in_ok-numbers.numbers.items =
    subst (λ (n : ℕ). AreNumbers n (reached d.edges) c.in_ok-numbers.numbers.items) count
    (subst (λ (xs : List ℕ). AreNumbers c.len-count.result xs c.in_ok-numbers.numbers.items) (c.deref-2.ensures.value ∙ order) c.in_ok-numbers.ensures) in
    λ p.
    subst (λ (ns : List ℕ). All (λ (e : EdgeOf). e.to < length ns) (row_at (rows_view c.in_ok-rows.rows.items) p)) (sym c.deref-5.ensures.value)
    (subst (λ (n : ℕ). All (λ (e : EdgeOf). e.to < n) (row_at (rows_view c.in_ok-rows.rows.items) p)) (sym numbers.size) (row_ends (length c.args.paths.items) d (rows_view c.in_ok-rows.rows.items) p c.requires rows))

pub new-requires : goal.new-requires
new-requires c =
    let d : DraftOf ℕ = drafted c.args.draft in
    let count : c.len-count.result ≡ length d.labels = c.len-count.ensures ∙ c.parts-parts.result.labels.ok.0 ∙ ap (λ (xs : List Label). length xs) c.parts-parts.ensures.labels in
    let rows : AreRows (length d.labels) d.edges (rows_view c.in_ok-rows.rows.items) =
    subst (λ (n : ℕ). AreRows n d.edges (rows_view c.in_ok-rows.rows.items)) count
    (subst (λ (es : List (EdgeFrom ℕ)). AreRows c.len-count.result es (rows_view c.in_ok-rows.rows.items)) c.parts-parts.ensures.edges c.in_ok-rows.ensures) in
    let turns : c.len-turns.result + 2 ≡ length d.edges + 2 =
    ap (λ (n : ℕ). n + 2) (c.len-turns.ensures ∙ c.parts-parts.result.edges.ok.0 ∙ sym (length-map c.parts-parts.result.edges.items edge_view) ∙ ap (λ (es : List (EdgeFrom ℕ)). length es) c.parts-parts.ensures.edges) in
    let order : c.in_ok-order.order.items ≡ reached d.edges =
    order_is (length c.args.paths.items) d (rows_view c.in_ok-rows.rows.items) (c.len-turns.result + 2) c.in_ok-order.order.items c.requires rows turns
    (c.in_ok-order.ensures ∙ ap (λ (rs : List (Vec Edge Global)). preorder (ends_in (rows_view rs)) (c.len-turns.result + 2) (1 ∷ []) []) c.deref.ensures.value) in
    let numbers : AreNumbers (length d.labels) (reached d.edges) c.in_ok-numbers.numbers.items =
    subst (λ (n : ℕ). AreNumbers n (reached d.edges) c.in_ok-numbers.numbers.items) count
    (subst (λ (xs : List ℕ). AreNumbers c.len-count.result xs c.in_ok-numbers.numbers.items) (c.deref-2.ensures.value ∙ order) c.in_ok-numbers.ensures) in
    let points : map placed_view c.in_ok-points.points.items ≡ map (placed d.labels (rows_view c.in_ok-rows.rows.items) c.in_ok-numbers.numbers.items) (reached d.edges) =
    c.in_ok-points.ensures
    ∙ ap (λ (ls : List Label). map (placed ls (rows_view c.in_ok-rows.rows.items) c.deref-5.result.now) c.deref-4.result.now) (c.deref-3.ensures.value ∙ c.parts-parts.ensures.labels)
    ∙ ap (λ (ns : List ℕ). map (placed d.labels (rows_view c.in_ok-rows.rows.items) ns) c.deref-4.result.now) c.deref-5.ensures.value
    ∙ ap (λ (xs : List ℕ). map (placed d.labels (rows_view c.in_ok-rows.rows.items) c.in_ok-numbers.numbers.items) xs) (c.deref-4.ensures.value ∙ order) in
    let graph : graph_of c.args.paths.items c.parts-parts.result.variables.items c.parts-parts.result.scopes.items c.in_ok-points.points.items ≡ numbered (map path_view c.args.paths.items) d =
    graph_is c.args.paths.items c.parts-parts.result.variables.items c.parts-parts.result.scopes.items c.in_ok-points.points.items d (rows_view c.in_ok-rows.rows.items) c.in_ok-numbers.numbers.items
    c.parts-parts.ensures.variables c.parts-parts.ensures.scopes (froms (length c.args.paths.items) d c.requires) rows numbers points in
    subst (λ (g : GraphOf). IsGraph g) (sym graph) (graph_well_made c.args.paths.items d c.requires)

pub returns : goal.returns
returns c =
    let d : DraftOf ℕ = drafted c.args.draft in
    let count : c.len-count.result ≡ length d.labels = c.len-count.ensures ∙ c.parts-parts.result.labels.ok.0 ∙ ap (λ (xs : List Label). length xs) c.parts-parts.ensures.labels in
    let rows : AreRows (length d.labels) d.edges (rows_view c.in_ok-rows.rows.items) =
    subst (λ (n : ℕ). AreRows n d.edges (rows_view c.in_ok-rows.rows.items)) count
    (subst (λ (es : List (EdgeFrom ℕ)). AreRows c.len-count.result es (rows_view c.in_ok-rows.rows.items)) c.parts-parts.ensures.edges c.in_ok-rows.ensures) in
    let turns : c.len-turns.result + 2 ≡ length d.edges + 2 =
    ap (λ (n : ℕ). n + 2) (c.len-turns.ensures ∙ c.parts-parts.result.edges.ok.0 ∙ sym (length-map c.parts-parts.result.edges.items edge_view) ∙ ap (λ (es : List (EdgeFrom ℕ)). length es) c.parts-parts.ensures.edges) in
    let order : c.in_ok-order.order.items ≡ reached d.edges =
    order_is (length c.args.paths.items) d (rows_view c.in_ok-rows.rows.items) (c.len-turns.result + 2) c.in_ok-order.order.items c.requires rows turns
    (c.in_ok-order.ensures ∙ ap (λ (rs : List (Vec Edge Global)). preorder (ends_in (rows_view rs)) (c.len-turns.result + 2) (1 ∷ []) []) c.deref.ensures.value) in
    let numbers : AreNumbers (length d.labels) (reached d.edges) c.in_ok-numbers.numbers.items =
    subst (λ (n : ℕ). AreNumbers n (reached d.edges) c.in_ok-numbers.numbers.items) count
    (subst (λ (xs : List ℕ). AreNumbers c.len-count.result xs c.in_ok-numbers.numbers.items) (c.deref-2.ensures.value ∙ order) c.in_ok-numbers.ensures) in
    let points : map placed_view c.in_ok-points.points.items ≡ map (placed d.labels (rows_view c.in_ok-rows.rows.items) c.in_ok-numbers.numbers.items) (reached d.edges) =
    c.in_ok-points.ensures
    ∙ ap (λ (ls : List Label). map (placed ls (rows_view c.in_ok-rows.rows.items) c.deref-5.result.now) c.deref-4.result.now) (c.deref-3.ensures.value ∙ c.parts-parts.ensures.labels)
    ∙ ap (λ (ns : List ℕ). map (placed d.labels (rows_view c.in_ok-rows.rows.items) ns) c.deref-4.result.now) c.deref-5.ensures.value
    ∙ ap (λ (xs : List ℕ). map (placed d.labels (rows_view c.in_ok-rows.rows.items) c.in_ok-numbers.numbers.items) xs) (c.deref-4.ensures.value ∙ order) in
    let graph : graph_of c.args.paths.items c.parts-parts.result.variables.items c.parts-parts.result.scopes.items c.in_ok-points.points.items ≡ numbered (map path_view c.args.paths.items) d =
    graph_is c.args.paths.items c.parts-parts.result.variables.items c.parts-parts.result.scopes.items c.in_ok-points.points.items d (rows_view c.in_ok-rows.rows.items) c.in_ok-numbers.numbers.items
    c.parts-parts.ensures.variables c.parts-parts.ensures.scopes (froms (length c.args.paths.items) d c.requires) rows numbers points in
    c.new.ensures ∙ graph
