use Rattle.std.proofs.Common.{arith}
use Rattle.pk_graph.specs.Graphs.{EdgeOf, edge_view}
use Rattle.pk_plan.specs.Plans.{is_inside}
use Rattle.pk_packs.proofs.EdgeLemmas.{leads_to, edge_next, edges_begin, edges_end}
use Rattle.pk_packs.proofs.edges.mark_inside.Goals as goal

pub overflow_cast-edges : goal.overflow_cast-edges
overflow_cast-edges c =
    let to = leads_to c.args.edges.now c.loop-number.number c.index-edges-number.result c.args.plan.now.elements c.requires c.loop-number-test.true in
    omega (arith, to, c.axioms.ensures.few)

pub holds-leads_inside-requires : goal.holds-leads_inside-requires
holds-leads_inside-requires c = leads_to c.args.edges.now c.loop-number.number c.index-edges-number.result c.args.plan.now.elements c.requires c.loop-number-test.true

pub loop-number-init : goal.loop-number-init
loop-number-init c = edges_begin (λ (e : EdgeOf). is_inside c.args.plan.now c.args.component.now e.to) c.args.edges.now c.args.marks.now

pub loop-number-preserved : goal.loop-number-preserved
unfolding edge_view
loop-number-preserved c =
    edge_next (λ (e : EdgeOf). is_inside c.args.plan.now c.args.component.now e.to) c.args.edges.now c.loop-number.number c.index-edges-number.result c.index-edges-number-in-loop-number.result
    c.holds-leads_inside.result c.args.marks.now c.loop-number.marks c.mark_taken.new.marks c.loop-number-test.true
    c.index-edges-number-in-loop-number.is c.holds-leads_inside.ensures.place c.loop-number.invariant c.mark_taken.ensures

pub returns : goal.returns
returns c =
    edges_end (λ (e : EdgeOf). is_inside c.args.plan.now c.args.component.now e.to) c.args.edges.now c.loop-number.number c.args.marks.now c.loop-number.marks c.loop-number-test.false c.loop-number.invariant
