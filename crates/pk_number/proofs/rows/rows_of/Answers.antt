use Rattle.std.proofs.Common.{◌≡◌, ◌<◌, ℕ, List, length, map, ap, sym, subst, ◌∙◌}
use Rattle.std.proofs.lemmas.List.{with_items_is, map-id}
use Rattle.std.proofs.lemmas.Iterator.Adapters.{YieldsList-from_vec}
use Rattle.std.proofs.lemmas.Iterator.Consumers.{YieldsList-turn, YieldsList-end}
use Rattle.pk_draft.specs.declared.drafts.DraftEdge.{DraftEdge}
use Rattle.pk_draft.specs.Answers.{edge_view}
use Rattle.pk_number.specs.Rows.{rows_view, with_edge, AreRows}
use Rattle.pk_number.proofs.RowLemmas.{rows_begin, edge_read, rows_after, rows_size}
use Rattle.pk_number.proofs.rows.rows_of.Goals as goal

pub add-requires : goal.add-requires
unfolding edge_view
add-requires c =
    let t = YieldsList-turn (YieldsList-from_vec {s = c.into_iter-edge-iterator.result} c.args.edges.items c.into_iter-edge-iterator.ensures.into_iter_gives.0 (c.into_iter-edge-iterator.ensures.into_iter_gives.1 ∙ c.args.edges.ok.0)) c.loop-edge.yielded c.loop-edge.edge-iterator c.loop-edge.yielded_by c.next.result c.next.new.self c.in-Some.edge c.in-Some.is c.next.ensures.steps in
    subst (λ (n : ℕ). c.in-Some.edge.from < n) (sym (ap (λ (rows : _). length rows) c.deref_mut.ensures.value ∙ rows_size c.args.count (map edge_view c.loop-edge.yielded) c.loop-edge.rows.items c.loop-edge.invariant))
    (edge_read c.args.count c.args.edges.items (length c.loop-edge.yielded) c.in-Some.edge c.requires t.0 t.1)

pub loop-edge-init : goal.loop-edge-init
loop-edge-init c = rows_begin c.args.count (rows_view c.in_ok-rows.rows.items) c.in_ok-rows.ensures

pub loop-edge-preserved : goal.loop-edge-preserved
loop-edge-preserved c =
    let t = YieldsList-turn (YieldsList-from_vec {s = c.into_iter-edge-iterator.result} c.args.edges.items c.into_iter-edge-iterator.ensures.into_iter_gives.0 (c.into_iter-edge-iterator.ensures.into_iter_gives.1 ∙ c.args.edges.ok.0)) c.loop-edge.yielded c.loop-edge.edge-iterator c.loop-edge.yielded_by c.next.result c.next.new.self c.in-Some.edge c.in-Some.is c.next.ensures.steps in
    rw (with_items_is c.loop-edge.rows c.add.new.rows (c.add.auto.rows ∙ c.deref_mut.ensures.len))
    (rows_after c.args.count c.loop-edge.yielded c.in-Some.edge c.loop-edge.rows.items (rows_view c.add.new.rows)
    (edge_read c.args.count c.args.edges.items (length c.loop-edge.yielded) c.in-Some.edge c.requires t.0 t.1)
    (subst (λ (rows : _). rows_view c.add.new.rows ≡ with_edge (edge_view c.in-Some.edge) (rows_view rows)) c.deref_mut.ensures.value c.in_ok-add.ensures)
    c.loop-edge.invariant)

pub returns : goal.returns
returns c =
    let t = YieldsList-end (YieldsList-from_vec {s = c.into_iter-edge-iterator.result} c.args.edges.items c.into_iter-edge-iterator.ensures.into_iter_gives.0 (c.into_iter-edge-iterator.ensures.into_iter_gives.1 ∙ c.args.edges.ok.0)) c.loop-edge.yielded c.loop-edge.edge-iterator c.loop-edge.yielded_by c.next.result c.next.new.self c.in-None.is c.next.ensures.steps in
    subst (λ (es : List DraftEdge). AreRows c.args.count (map edge_view es) (rows_view c.loop-edge.rows.items)) (sym (map-id c.loop-edge.yielded) ∙ t.0) c.loop-edge.invariant
