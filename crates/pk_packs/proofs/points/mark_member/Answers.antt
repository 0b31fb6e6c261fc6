use Rattle.std.proofs.Common.{◌<◌, ◌≤◌, ℕ, List, ap, sym, subst}
use Rattle.std.specs.List.{All}
use Rattle.std.proofs.lemmas.List.{get_or_past}
use Rattle.pk_graph.specs.Graphs.{EdgeOf, PointOf, no_point, edge_view}
use Rattle.pk_graph.specs.Shown.{graph_view}
use Rattle.pk_plan.specs.Plans.{is_inside}
use Rattle.pk_packs.proofs.MarkLemmas.{marked_none, marked_same}
use Rattle.pk_packs.proofs.EdgeLemmas.{is_asked_of}
use Rattle.pk_packs.proofs.ComponentLemmas.{edges_within, asked_inside}
use Rattle.std.proofs.Common.{map}
use Rattle.pk_packs.proofs.points.mark_member.Goals as goal

pub mark_inside-requires : goal.mark_inside-requires
mark_inside-requires c =
    let g = graph_view c.args.graph.now in
    subst (λ (es : List EdgeOf). All (λ (e : EdgeOf). e.to < c.args.plan.now.elements) es) (sym c.edges-edges.ensures)
    (edges_within g c.args.plan.now c.args.member c.well_made.ensures c.axioms.ensures.axioms c.requires
    (subst (λ (n : ℕ). c.args.member < n) c.points.ensures c.if-member-points.true))

pub returns-then-member-points : goal.returns-then-member-points
returns-then-member-points c =
    let g = graph_view c.args.graph.now in
    marked_same (λ x. is_asked_of (λ (e : EdgeOf). is_inside c.args.plan.now c.args.component.now e.to) x (map edge_view c.edges-edges.result.now))
    (λ x. asked_inside g c.args.plan.now c.args.component.now x c.args.member) c.args.marks.now c.mark_inside.new.marks
    (λ x. ap (is_asked_of (λ (e : EdgeOf). is_inside c.args.plan.now c.args.component.now e.to) x) c.edges-edges.ensures)
    c.mark_inside.ensures

pub returns-else-member-points : goal.returns-else-member-points
returns-else-member-points c =
    let g = graph_view c.args.graph.now in
    marked_none (λ x. asked_inside g c.args.plan.now c.args.component.now x c.args.member) c.args.marks.now
    (λ x. ap (λ (q : PointOf). is_asked_of (λ (e : EdgeOf). is_inside c.args.plan.now c.args.component.now e.to) x q.edges)
    (get_or_past g.points c.args.member no_point (subst (λ (n : ℕ). n ≤ c.args.member) c.points.ensures c.if-member-points.false)))
