use Rattle.std.proofs.Common.{◌<◌, ℕ, refl, ap, sym, subst, length, map, slice_index_or, ◌≤◌, rules}
use Rattle.std.proofs.lemmas.List.{get_or_default}
use Rattle.pk_graph.specs.declared.graphs.Edge.{Edge}
use Rattle.pk_graph.specs.Views.{instr_view}
use Rattle.pk_graph.specs.Graphs.{EdgeOf, edge_view}
use Rattle.pk_number.proofs.PointLemmas.{edge_read, edge_inside, renumbered_next, renumbered_end}
use Rattle.pk_number.proofs.numbering.renumber.Goals as goal

pub bounds-numbers-to : goal.bounds-numbers-to
unfolding edge_view
bounds-numbers-to c =
    let first = map edge_view c.args.edges.now in
    let here : c.loop-k.k < length c.loop-k.edges = subst (λ (n : ℕ). c.loop-k.k < n) (sym c.loop-k.auto.edges) c.loop-k-test.true in
    subst (λ (e : EdgeOf). e.to < length c.args.numbers.now) (sym (edge_read c.args.numbers.now first c.loop-k.k c.loop-k.edges c.index-edges-k.result here c.loop-k.invariant))
    (c.requires c.loop-k.k (edge_view c.index-edges-k.result) (edge_inside c.args.numbers.now first c.loop-k.k c.loop-k.edges here c.loop-k.invariant))

pub offset_bounds-numbers-to : goal.offset_bounds-numbers-to
unfolding edge_view
offset_bounds-numbers-to c =
    let first = map edge_view c.args.edges.now in
    let here : c.loop-k.k < length c.loop-k.edges = subst (λ (n : ℕ). c.loop-k.k < n) (sym c.loop-k.auto.edges) c.loop-k-test.true in
    let below : (slice_index_or c.loop-k.edges c.loop-k.k c.index-edges-k.result).to < length c.args.numbers.now =
    subst (λ (e : EdgeOf). e.to < length c.args.numbers.now) (sym (edge_read c.args.numbers.now first c.loop-k.k c.loop-k.edges c.index-edges-k.result here c.loop-k.invariant))
    (c.requires c.loop-k.k (edge_view c.index-edges-k.result) (edge_inside c.args.numbers.now first c.loop-k.k c.loop-k.edges here c.loop-k.invariant)) in
    search rules

pub loop-k-init : goal.loop-k-init
loop-k-init c = refl

pub loop-k-preserved : goal.loop-k-preserved
unfolding edge_view
loop-k-preserved c =
    renumbered_next c.args.numbers.now (map edge_view c.args.edges.now) c.loop-k.k c.loop-k.edges c.index-edges-k.result _
    (subst (λ (n : ℕ). c.loop-k.k < n) (sym c.loop-k.auto.edges) c.loop-k-test.true)
    (ap (λ (e : Edge). let f : EdgeOf = record { instr = instr_view e.instr; to = slice_index_or c.args.numbers.now (slice_index_or c.loop-k.edges c.loop-k.k c.index-edges-k.result).to 0 } in f)
    (get_or_default c.loop-k.edges c.loop-k.k c.index-edges-k-in-loop-k.result c.index-edges-k.result (subst (λ (n : ℕ). c.loop-k.k < n) (sym c.loop-k.auto.edges) c.loop-k-test.true)))
    c.loop-k.invariant

pub returns : goal.returns
returns c =
    renumbered_end c.args.numbers.now (map edge_view c.args.edges.now) c.loop-k.k c.loop-k.edges
    (subst (λ (n : ℕ). n ≤ c.loop-k.k) (sym c.loop-k.auto.edges) c.loop-k-test.false) c.loop-k.invariant
