use Rattle.std.proofs.Common.{◌≡◌, ◌<◌, ◌∙◌, ℕ, ap, sym, subst, length, map, All, slice_index_or, List, rules, arith}
use Rattle.std.proofs.lemmas.List.{with_items_is}
use Rattle.pk_graph.specs.Graphs.{EdgeOf, edge_view}
use Rattle.pk_number.specs.Rows.{rows_view, row_at, renumbered, Placed}
use Rattle.pk_number.proofs.AmongLemmas.{among_at}
use Rattle.pk_number.proofs.RowLemmas.{row_got}
use Rattle.pk_number.proofs.PointLemmas.{made_begin, row_left, made_next, made_end}
use Rattle.pk_number.proofs.numbering.points_of.Goals as goal
use Rattle.pk_draft.specs.Drafts.{no_label}

pub loop-k-init : goal.loop-k-init
loop-k-init c = made_begin c.args.labels.now c.args.numbers.now c.args.order.now c.args.rows.items c.in_ok-points.points.items c.requires.size c.in_ok-points.ensures.items

pub index_mut-requires : goal.index_mut-requires
index_mut-requires c =
    let p : ℕ = slice_index_or c.args.order.now c.loop-k.k 0 in
    let below : p < length c.args.labels.now = c.requires.below p (among_at c.args.order.now c.loop-k.k 0 c.loop-k-test.true) in
    omega (arith, below, c.loop-k.invariant.size, c.loop-k.rows.ok.0)

pub bounds-labels-point : goal.bounds-labels-point
bounds-labels-point c = c.requires.below (slice_index_or c.args.order.now c.loop-k.k 0) (among_at c.args.order.now c.loop-k.k 0 c.loop-k-test.true)

pub offset_bounds-labels-point : goal.offset_bounds-labels-point
offset_bounds-labels-point c =
    let p : ℕ = slice_index_or c.args.order.now c.loop-k.k 0 in
    let below : p < length c.args.labels.now = c.requires.below p (among_at c.args.order.now c.loop-k.k 0 c.loop-k-test.true) in
    search rules

pub renumber-requires : goal.renumber-requires
renumber-requires c =
    let p : ℕ = slice_index_or c.args.order.now c.loop-k.k 0 in
    let below : p < length c.args.labels.now = c.requires.below p (among_at c.args.order.now c.loop-k.k 0 c.loop-k-test.true) in
    let inside : p < length c.loop-k.rows.items = omega (arith, below, c.loop-k.invariant.size) in
    let first : List (List EdgeOf) = rows_view c.args.rows.items in
    let row : map edge_view c.deref_mut.result.now ≡ row_at first p =
    ap (map edge_view) (c.deref_mut.ensures.value ∙ ap (λ (v : _). v.items) (c.replace-edges.ensures.value ∙ c.index_mut.ensures.value))
    ∙ row_got c.loop-k.rows.items p _ inside
    ∙ row_left c.args.labels.now first c.args.numbers.now c.args.order.now c.loop-k.k c.loop-k.rows.items c.loop-k.points.items c.loop-k-test.true c.requires.distinct c.loop-k.invariant in
    subst (λ (xs : List EdgeOf). All (λ (e : EdgeOf). e.to < length c.args.numbers.now) xs) (sym row) (c.requires.ends p)

pub loop-k-preserved : goal.loop-k-preserved
loop-k-preserved c =
    let p : ℕ = slice_index_or c.args.order.now c.loop-k.k 0 in
    let below : p < length c.args.labels.now = c.requires.below p (among_at c.args.order.now c.loop-k.k 0 c.loop-k-test.true) in
    let inside : p < length c.loop-k.rows.items = omega (arith, below, c.loop-k.invariant.size) in
    let row : map edge_view c.deref_mut.result.now ≡ row_at (rows_view c.loop-k.rows.items) p =
    ap (map edge_view) (c.deref_mut.ensures.value ∙ ap (λ (v : _). v.items) (c.replace-edges.ensures.value ∙ c.index_mut.ensures.value))
    ∙ row_got c.loop-k.rows.items p _ inside in
    made_next c.args.labels.now (rows_view c.args.rows.items) c.args.numbers.now c.args.order.now c.loop-k.k c.loop-k.rows.items c.loop-k.points.items c.push.new.self.items c.replace-edges.new.dest c.point_of.result
    c.loop-k-test.true c.requires.distinct c.in_ok-push.ensures.items
    (c.point_of.ensures ∙ ap (λ (xs : List EdgeOf). let x : Placed = record { label = slice_index_or c.args.labels.now p no_label; edges = xs } in x)
    (ap (map edge_view) (with_items_is c.replace-edges.result c.renumber.new.edges (c.renumber.auto.edges ∙ c.deref_mut.ensures.len)) ∙ c.renumber.ensures ∙ ap (map (renumbered c.args.numbers.now)) row)) c.loop-k.invariant

pub returns : goal.returns
returns c = made_end c.args.labels.now (rows_view c.args.rows.items) c.args.numbers.now c.args.order.now c.loop-k.k c.loop-k.rows.items c.loop-k.points.items c.loop-k-test.false c.loop-k.invariant
