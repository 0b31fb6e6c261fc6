use Rattle.std.proofs.Common.{ℕ, List, ap, ◌∙◌}
use Rattle.std.specs.List.{list_any}
use Rattle.pk_graph.specs.Shown.{graph_view}
use Rattle.pk_graph.specs.OctagonVariables.{is_asked_in}
use Rattle.pk_packs.specs.Belongs.{lies_in}
use Rattle.pk_packs.specs.Packs.{with_edges}
use Rattle.pk_packs.proofs.MarkLemmas.{marked_begin, marked_next, marked_end, marked_same}
use Rattle.pk_packs.proofs.ComponentLemmas.{asked_inside, component_same}
use Rattle.pk_packs.proofs.points.mark_component.Goals as goal

pub loop-number-init : goal.loop-number-init
loop-number-init c = marked_begin (asked_inside (graph_view c.args.graph.now) c.args.plan.now c.args.component.now) c.members-members.result.now c.args.marks.now

pub loop-number-preserved : goal.loop-number-preserved
loop-number-preserved c =
    marked_next (asked_inside (graph_view c.args.graph.now) c.args.plan.now c.args.component.now) c.members-members.result.now c.loop-number.number 0
    c.args.marks.now c.loop-number.marks c.mark_member.new.marks c.loop-number-test.true c.loop-number.invariant c.mark_member.ensures

pub returns : goal.returns
returns c =
    let g = graph_view c.args.graph.now in
    let p = c.args.plan.now in
    let it = c.args.component.now in
    let ms = c.members-members.result.now in
    marked_same (λ x. list_any (asked_inside g p it x) ms) (λ x. is_asked_in x (with_edges (lies_in p it) 0 g.points)) c.args.marks.now c.loop-number.marks
    (λ x. ap (λ (us : List ℕ). list_any (asked_inside g p it x) us) c.members-members.ensures ∙ component_same g p it x c.axioms.ensures.axioms c.requires.of c.requires.points)
    (marked_end (asked_inside g p it) ms c.loop-number.number c.args.marks.now c.loop-number.marks c.loop-number-test.false c.loop-number.invariant)
