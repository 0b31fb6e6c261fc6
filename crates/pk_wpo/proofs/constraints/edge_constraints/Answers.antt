use Rattle.std.proofs.Common.{◌++◌, ◌∷◌, [], ℕ, List, length, get_or, ap, subst, arith, ◌∙◌}
use Rattle.std.proofs.Math.ListN.{length-set}
use Rattle.pk_plan.specs.Digraphs.{Edge}
use Rattle.pk_wpo.proofs.Orders.{top_below}
use Rattle.pk_plan.proofs.Drawing.{EdgesOf, edge_more_of, row_begins, row_more, row_ends, rows_end}
use Rattle.pk_wpo.proofs.Steps.{Drawn, drawn_is_one, target_below, are_edge_constraints}
use Rattle.pk_wpo.proofs.constraints.edge_constraints.Goals as goal

pub loop-v-init : goal.loop-v-init
loop-v-init c = record {
  long = c.loop-u.invariant.long;
  edges = row_begins c.graph-graph.result.now c.loop-u.constraints c.loop-u.u c.successors-v-items.result.now (Drawn c.args.layout.now) c.loop-u.invariant.edges;
}

pub add_edge-requires-clause-from : goal.add_edge-requires-clause-from
add_edge-requires-clause-from c =
    let same = ap (λ (g : List (List ℕ)). length g) c.graph-graph.ensures in
    let below = top_below c.args.layout.now c.loop-u.u (get_or c.successors-v-items.result.now c.loop-v.v-index 0) c.top-from.result c.laid.ensures (omega (arith, c.loop-u-test.true, c.vertices-u-end.ensures, same)) c.top-from.ensures in
    omega (arith, below, c.loop-v.invariant.long)

pub add_edge-requires-clause-to : goal.add_edge-requires-clause-to
add_edge-requires-clause-to c =
    let same = ap (λ (g : List (List ℕ)). length g) c.graph-graph.ensures in
    let inside = c.successors-v-items.ensures.within c.loop-v.v-index 0 c.loop-v-test.true in
    let below = target_below c.args.layout.now c.loop-u.u (get_or c.successors-v-items.result.now c.loop-v.v-index 0) c.target-to.result c.laid.ensures (omega (arith, inside, same)) c.target-to.ensures in
    omega (arith, below, c.loop-v.invariant.long)

pub loop-v-preserved : goal.loop-v-preserved
loop-v-preserved c =
    let l = c.args.layout.now in
    let row = c.successors-v-items.result.now in
    let v = get_or row c.loop-v.v-index 0 in
    let same = ap (λ (g : List (List ℕ)). length g) c.graph-graph.ensures in
    let below = top_below l c.loop-u.u v c.top-from.result c.laid.ensures (omega (arith, c.loop-u-test.true, c.vertices-u-end.ensures, same)) c.top-from.ensures in
    record {
      long =
          ap (λ (g : List (List ℕ)). length g) c.in_ok-add_edge.ensures.ok
          ∙ length-set c.loop-v.constraints c.top-from.result (get_or c.loop-v.constraints c.top-from.result [] ++ c.target-to.result ∷ [])
          ∙ c.loop-v.invariant.long;
      edges = row_more c.graph-graph.result.now c.loop-v.constraints c.add_edge.new.self c.loop-u.u row c.loop-v.v-index c.top-from.result c.target-to.result (Drawn l) c.loop-v-test.true
          (c.top-from.ensures, c.target-to.ensures)
          (λ a b r. drawn_is_one l c.loop-u.u v c.top-from.result c.target-to.result a b c.laid.ensures (c.top-from.ensures, c.target-to.ensures) r)
          (edge_more_of c.loop-v.constraints c.add_edge.new.self c.top-from.result c.target-to.result (omega (arith, below, c.loop-v.invariant.long)) c.in_ok-add_edge.ensures.ok)
          c.loop-v.invariant.edges;
    }

pub loop-u-preserved : goal.loop-u-preserved
loop-u-preserved c = record {
  long = c.loop-v.invariant.long;
  edges = row_ends c.graph-graph.result.now c.loop-v.constraints c.loop-u.u c.successors-v-items.result.now c.loop-v.v-index (Drawn c.args.layout.now) c.successors-v-items.ensures.successors (omega arith) c.loop-v.invariant.edges;
}

pub returns-clause-edges : goal.returns-clause-edges
returns-clause-edges c =
    are_edge_constraints c.args.layout.now c.loop-u.constraints
    (subst (λ (g : List (List ℕ)). EdgesOf (Edge g) (Drawn c.args.layout.now) c.loop-u.constraints) c.graph-graph.ensures
    (rows_end c.graph-graph.result.now c.loop-u.constraints c.loop-u.u (Drawn c.args.layout.now) (omega (arith, c.vertices-u-end.ensures)) c.loop-u.invariant.edges))
