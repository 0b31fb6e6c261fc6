use Rattle.std.proofs.Common.{◌<◌, ◌∙◌, ℕ, refl, ap, sym, true, false, List, [], ◌∷◌, ◌++◌, map, reverse, length, rules, arith}
use Rattle.std.proofs.lemmas.List.{nil_from_length}
use Rattle.pk_graph.specs.Graphs.{EdgeOf, edge_view}
use Rattle.pk_number.proofs.RowLemmas.{row_read}
use Rattle.pk_number.specs.Rows.{rows_view, ends_in}
use Rattle.pk_number.proofs.WaitLemmas.{walking_begin, walking_point, walking_mark, walking_seen, walking_now, walking_none, walking_out}
use Rattle.pk_number.proofs.walks.walked.Goals as goal

pub loop-turn-init : goal.loop-turn-init
loop-turn-init c = walking_begin (ends_in (rows_view c.args.rows.now)) (length c.args.rows.now) c.args.turns c.in_ok-marks.marks.items c.push.new.self.items c.new-order.result.items c.requires.entry
    (c.in_ok-marks.ensures.items_if_clones_equal (λ y e. e)) (c.in_ok-push.ensures.items ∙ ap (λ (xs : List ℕ). xs ++ 1 ∷ []) c.new-waiting.ensures.items) c.new-order.ensures.items

pub index-requires : goal.index-requires
index-requires c =
    let below = walking_point (ends_in (rows_view c.args.rows.now)) (length c.args.rows.now) c.args.turns c.loop-turn._turn c.loop-turn.marks.items c.loop-turn.waiting.items c.pop.new.self.items c.loop-turn.order.items c.in-Some.point c.pop.result c.pop.ensures.items c.in-Some.is c.loop-turn.invariant in
    omega (arith, below, c.loop-turn.invariant.size, c.loop-turn.marks.ok.0)

pub index_mut-requires : goal.index_mut-requires
index_mut-requires c =
    let below = walking_point (ends_in (rows_view c.args.rows.now)) (length c.args.rows.now) c.args.turns c.loop-turn._turn c.loop-turn.marks.items c.loop-turn.waiting.items c.pop.new.self.items c.loop-turn.order.items c.in-Some.point c.pop.result c.pop.ensures.items c.in-Some.is c.loop-turn.invariant in
    omega (arith, below, c.loop-turn.invariant.size, c.loop-turn.marks.ok.0)

pub bounds-rows-point : goal.bounds-rows-point
bounds-rows-point c =
    walking_point (ends_in (rows_view c.args.rows.now)) (length c.args.rows.now) c.args.turns c.loop-turn._turn c.loop-turn.marks.items c.loop-turn.waiting.items c.pop.new.self.items c.loop-turn.order.items c.in-Some.point c.pop.result c.pop.ensures.items c.in-Some.is c.loop-turn.invariant

pub offset_bounds-rows-point : goal.offset_bounds-rows-point
offset_bounds-rows-point c =
    let below : c.in-Some.point < length c.args.rows.now = walking_point (ends_in (rows_view c.args.rows.now)) (length c.args.rows.now) c.args.turns c.loop-turn._turn c.loop-turn.marks.items c.loop-turn.waiting.items c.pop.new.self.items c.loop-turn.order.items c.in-Some.point c.pop.result c.pop.ensures.items c.in-Some.is c.loop-turn.invariant in
    search rules

pub loop-turn-preserved-then-index : goal.loop-turn-preserved-then-index
loop-turn-preserved-then-index c =
    walking_seen (ends_in (rows_view c.args.rows.now)) (length c.args.rows.now) c.args.turns c.loop-turn._turn c.loop-turn.marks.items c.loop-turn.waiting.items c.pop.new.self.items c.loop-turn.order.items c.in-Some.point c.pop.result
    c.loop-turn-test.true c.pop.ensures.items c.in-Some.is
    (walking_mark (length c.args.rows.now) c.in-Some.point c.loop-turn.marks.items c.index.result.now true (walking_point (ends_in (rows_view c.args.rows.now)) (length c.args.rows.now) c.args.turns c.loop-turn._turn c.loop-turn.marks.items c.loop-turn.waiting.items c.pop.new.self.items c.loop-turn.order.items c.in-Some.point c.pop.result c.pop.ensures.items c.in-Some.is c.loop-turn.invariant) c.loop-turn.invariant.size c.index.ensures c.if-index.true) c.loop-turn.invariant

pub loop-turn-preserved : goal.loop-turn-preserved
loop-turn-preserved c =
    walking_now (ends_in (rows_view c.args.rows.now)) (length c.args.rows.now) c.args.turns c.loop-turn._turn c.loop-turn.marks.items _ c.loop-turn.waiting.items c.pop.new.self.items c.push_ends.new.waiting.items c.loop-turn.order.items c.push-in-loop-turn.new.self.items c.in-Some.point c.pop.result
    c.loop-turn-test.true c.pop.ensures.items c.in-Some.is
    (walking_mark (length c.args.rows.now) c.in-Some.point c.loop-turn.marks.items c.index.result.now false (walking_point (ends_in (rows_view c.args.rows.now)) (length c.args.rows.now) c.args.turns c.loop-turn._turn c.loop-turn.marks.items c.loop-turn.waiting.items c.pop.new.self.items c.loop-turn.order.items c.in-Some.point c.pop.result c.pop.ensures.items c.in-Some.is c.loop-turn.invariant) c.loop-turn.invariant.size c.index.ensures c.if-index.false)
    refl c.in_ok-push-2.ensures.items
    (c.in_ok-push_ends.ensures ∙ ap (λ (xs : List EdgeOf). map (λ (e : EdgeOf). e.to) xs ++ reverse c.pop.new.self.items)
    (ap (map edge_view) c.deref.ensures.value ∙ sym (row_read c.args.rows.now c.in-Some.point c.index-rows-point.result (walking_point (ends_in (rows_view c.args.rows.now)) (length c.args.rows.now) c.args.turns c.loop-turn._turn c.loop-turn.marks.items c.loop-turn.waiting.items c.pop.new.self.items c.loop-turn.order.items c.in-Some.point c.pop.result c.pop.ensures.items c.in-Some.is c.loop-turn.invariant) c.index-rows-point.is)))
    c.requires.ends c.loop-turn.invariant

pub returns-in_default : goal.returns-in_default
returns-in_default c = walking_none (ends_in (rows_view c.args.rows.now)) (length c.args.rows.now) c.args.turns c.loop-turn._turn c.loop-turn.marks.items c.loop-turn.waiting.items c.loop-turn.order.items (nil_from_length c.loop-turn.waiting.items (sym c.loop-turn.waiting.ok.0 ∙ c.in_default.ensures.cases.0)) c.loop-turn.invariant

pub returns : goal.returns
returns c = walking_out (ends_in (rows_view c.args.rows.now)) (length c.args.rows.now) c.args.turns c.loop-turn._turn c.loop-turn.marks.items c.loop-turn.waiting.items c.loop-turn.order.items c.loop-turn-test.false c.loop-turn.invariant
