use Rattle.std.proofs.Common.{Bool, ap, arith, not}
use Rattle.pk_graph.specs.Graphs.{edge_view}
use Rattle.pk_packs.specs.Belongs.{lies_in_none}
use Rattle.pk_packs.proofs.EdgeLemmas.{leads_to, edge_next, edges_begin, edges_end}
use Rattle.pk_packs.proofs.edges.mark_outside.Goals as goal

pub overflow_cast-edges : goal.overflow_cast-edges
overflow_cast-edges c =
    let to = leads_to c.args.edges.now c.loop-number.number c.index-edges-number.result c.args.plan.now.elements c.requires.to c.loop-number-test.true in
    omega (arith, to, c.axioms.ensures.few)

pub are_in_one-is_outside-requires-clause-other : goal.are_in_one-is_outside-requires-clause-other
are_in_one-is_outside-requires-clause-other c = leads_to c.args.edges.now c.loop-number.number c.index-edges-number.result c.args.plan.now.elements c.requires.to c.loop-number-test.true

pub loop-number-init : goal.loop-number-init
loop-number-init c = edges_begin (lies_in_none c.args.plan.now c.args.from) c.args.edges.now c.args.marks.now

pub loop-number-preserved : goal.loop-number-preserved
unfolding edge_view
loop-number-preserved c =
    edge_next (lies_in_none c.args.plan.now c.args.from) c.args.edges.now c.loop-number.number c.index-edges-number.result c.index-edges-number-in-loop-number.result
    (not c.are_in_one-is_outside.result) c.args.marks.now c.loop-number.marks c.mark_taken.new.marks c.loop-number-test.true
    c.index-edges-number-in-loop-number.is (ap (λ (b : Bool). not b) c.are_in_one-is_outside.ensures) c.loop-number.invariant c.mark_taken.ensures

pub returns : goal.returns
returns c =
    edges_end (lies_in_none c.args.plan.now c.args.from) c.args.edges.now c.loop-number.number c.args.marks.now c.loop-number.marks c.loop-number-test.false c.loop-number.invariant
