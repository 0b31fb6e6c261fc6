use Rattle.std.proofs.Common.{List, map, refl, arith}
use Rattle.std.specs.List.{slice_index_or}
use Rattle.std.specs.Global.{Vec}
use Rattle.std.proofs.lemmas.List.{length-map}
use Rattle.pk_graph.specs.Graphs.{edge_view}
use Rattle.pk_analysis.specs.declared.arrows.Arrow.{Arrow}
use Rattle.pk_analysis.specs.Arrows.{rows_of, no_edge}
use Rattle.pk_analysis.proofs.ArrowLemmas.{so_far_next, edge_leads}
use Rattle.pk_analysis.proofs.arrows.add_edges.Goals as goal

pub add-requires : goal.add-requires
add-requires c =
    let es = c.args.edges.now in
    let k = c.loop-edge.edge in
    let items : Vec Arrow → List Arrow = λ v. v.items in
    let leads = edge_leads es k c.index-edges-edge.result c.loop-edge-test.true in
    let many = length-map es edge_view in
    let old = length-map c.args.rows.now.items items in
    let new = length-map c.loop-edge.rows.items items in
    let here = c.requires k no_edge (omega (arith, many)) in
    omega (arith, leads, here, old, new, c.loop-edge.invariant.size)

pub loop-edge-preserved : goal.loop-edge-preserved
loop-edge-preserved c =
    let es = c.args.edges.now in
    let k = c.loop-edge.edge in
    let items : Vec Arrow → List Arrow = λ v. v.items in
    let leads = edge_leads es k c.index-edges-edge.result c.loop-edge-test.true in
    let many = length-map es edge_view in
    let old = length-map c.args.rows.now.items items in
    let here = c.requires k no_edge (omega (arith, many)) in
    so_far_next c.args.from k (slice_index_or es k c.index-edges-edge.result).to (map edge_view es) (rows_of c.args.rows.now.items) (rows_of c.loop-edge.rows.items) (rows_of c.add.new.rows.items) (record { from = c.args.from; edge = k })
    (omega (arith, many)) c.loop-edge.invariant (omega (arith, leads, here, old, c.loop-edge.invariant.size)) leads refl c.in_ok-add.ensures
