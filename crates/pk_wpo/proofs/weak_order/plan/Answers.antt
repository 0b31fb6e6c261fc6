use Rattle.std.proofs.Common.{◌+◌, ℕ, subst, arith, ◌∙◌}
use Rattle.pk_wpo.specs.Edges.{HasEndConstraintsMore}
use Rattle.pk_wpo.proofs.PlanMade.{Drawn, axioms_by_parts, plan_by_parts}
use Rattle.pk_wpo.proofs.weak_order.plan.Goals as goal

pub new-requires-2 : goal.new-requires-2
new-requires-2 c =
    let l = c.in_ok-layout.layout in
    let d : Drawn l c.in_ok-constraints.constraints c.add_head_constraints.new.constraints c.add_end_constraints.new.constraints c.in_ok-predecessors.predecessors c.in_ok-successors.successors = record {
      laid = c.laid.ensures;
      edges = c.in_ok-constraints.ensures.edges;
      heads = c.in_ok-add_head_constraints.ensures.edges;
      ends = subst (λ (n : ℕ). HasEndConstraintsMore n c.add_head_constraints.new.constraints c.add_end_constraints.new.constraints) c.end-end.ensures.end c.in_ok-add_end_constraints.ensures.edges;
      long = c.in_ok-add_end_constraints.ensures.as_many ∙ c.in_ok-add_head_constraints.ensures.as_many ∙ c.in_ok-constraints.ensures.as_many;
      backward = c.in_ok-predecessors.ensures.reverse;
      backward_rises = c.in_ok-predecessors.ensures.rising;
      forward = c.in_ok-successors.ensures.reverse;
      forward_rises = c.in_ok-successors.ensures.rising;
    } in
    axioms_by_parts l c.in_ok-constraints.constraints c.add_head_constraints.new.constraints c.add_end_constraints.new.constraints c.in_ok-predecessors.predecessors c.in_ok-successors.successors c.args.graph.now c.vertices.result (c.end-end.result + 1)
    c.into_lists-listing.result.0.items c.into_lists-listing.result.1.items c.in_ok-components.components.items d c.in_ok-layout.ensures.graph c.vertices.ensures (omega (arith, c.end-end.ensures.end))
    c.into_lists-listing.ensures.elements c.into_lists-listing.ensures.places c.in_ok-components.ensures

pub returns-clause-plan : goal.returns-clause-plan
returns-clause-plan c =
    let l = c.in_ok-layout.layout in
    let d : Drawn l c.in_ok-constraints.constraints c.add_head_constraints.new.constraints c.add_end_constraints.new.constraints c.in_ok-predecessors.predecessors c.in_ok-successors.successors = record {
      laid = c.laid.ensures;
      edges = c.in_ok-constraints.ensures.edges;
      heads = c.in_ok-add_head_constraints.ensures.edges;
      ends = subst (λ (n : ℕ). HasEndConstraintsMore n c.add_head_constraints.new.constraints c.add_end_constraints.new.constraints) c.end-end.ensures.end c.in_ok-add_end_constraints.ensures.edges;
      long = c.in_ok-add_end_constraints.ensures.as_many ∙ c.in_ok-add_head_constraints.ensures.as_many ∙ c.in_ok-constraints.ensures.as_many;
      backward = c.in_ok-predecessors.ensures.reverse;
      backward_rises = c.in_ok-predecessors.ensures.rising;
      forward = c.in_ok-successors.ensures.reverse;
      forward_rises = c.in_ok-successors.ensures.rising;
    } in
    (plan_by_parts l c.in_ok-constraints.constraints c.add_head_constraints.new.constraints c.add_end_constraints.new.constraints c.in_ok-predecessors.predecessors c.in_ok-successors.successors c.args.graph.now c.args.nest.now c.vertices.result (c.end-end.result + 1)
    c.into_lists-listing.result.0.items c.into_lists-listing.result.1.items c.in_ok-components.components.items c.new-2.result d c.in_ok-layout.ensures.graph c.in_ok-layout.ensures.items c.vertices.ensures (omega (arith, c.end-end.ensures.end))
    c.into_lists-listing.ensures.elements c.into_lists-listing.ensures.places c.in_ok-components.ensures c.new-2.ensures).0

pub returns-clause-fits : goal.returns-clause-fits
returns-clause-fits c =
    let l = c.in_ok-layout.layout in
    let d : Drawn l c.in_ok-constraints.constraints c.add_head_constraints.new.constraints c.add_end_constraints.new.constraints c.in_ok-predecessors.predecessors c.in_ok-successors.successors = record {
      laid = c.laid.ensures;
      edges = c.in_ok-constraints.ensures.edges;
      heads = c.in_ok-add_head_constraints.ensures.edges;
      ends = subst (λ (n : ℕ). HasEndConstraintsMore n c.add_head_constraints.new.constraints c.add_end_constraints.new.constraints) c.end-end.ensures.end c.in_ok-add_end_constraints.ensures.edges;
      long = c.in_ok-add_end_constraints.ensures.as_many ∙ c.in_ok-add_head_constraints.ensures.as_many ∙ c.in_ok-constraints.ensures.as_many;
      backward = c.in_ok-predecessors.ensures.reverse;
      backward_rises = c.in_ok-predecessors.ensures.rising;
      forward = c.in_ok-successors.ensures.reverse;
      forward_rises = c.in_ok-successors.ensures.rising;
    } in
    (plan_by_parts l c.in_ok-constraints.constraints c.add_head_constraints.new.constraints c.add_end_constraints.new.constraints c.in_ok-predecessors.predecessors c.in_ok-successors.successors c.args.graph.now c.args.nest.now c.vertices.result (c.end-end.result + 1)
    c.into_lists-listing.result.0.items c.into_lists-listing.result.1.items c.in_ok-components.components.items c.new-2.result d c.in_ok-layout.ensures.graph c.in_ok-layout.ensures.items c.vertices.ensures (omega (arith, c.end-end.ensures.end))
    c.into_lists-listing.ensures.elements c.into_lists-listing.ensures.places c.in_ok-components.ensures c.new-2.ensures).1
