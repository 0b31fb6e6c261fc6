use Rattle.std.proofs.Common.{◌<◌, ℕ, length, ap, sym, subst, ◌∙◌, arith}
use Rattle.std.proofs.lemmas.List.{length-map}
use Rattle.pk_graph.specs.Trees.{InstrOf}
use Rattle.pk_graph.specs.Graphs.{edge_view}
use Rattle.pk_graph.specs.Shown.{graph_view}
use Rattle.pk_graph.specs.Views.{instr_view}
use Rattle.std.specs.List.{slice_index_or}
use Rattle.pk_state.specs.Layouts.{Layout}
use Rattle.pk_transfer.specs.Transfers.{IsInstrOver, transferred}
use Rattle.pk_analysis.specs.Arrows.{IsArrow, instr_of}
use Rattle.pk_analysis.specs.Flows.{Flow, stated}
use Rattle.pk_analysis.proofs.FlowLemmas.{instr_is, over_there}
use Rattle.pk_analysis.proofs.flow.passed.Goals as goal

pub transfer-requires : goal.transfer-requires
transfer-requires c =
    let g = graph_view c.flow.inside.graph.now in
    let arrow = subst (λ (a : Flow). IsArrow (graph_view a.graph) c.args.arrow) (sym c.flow.view_is) c.requires.arrow in
    let many = length-map c.edges-edges.result.now edge_view in
    let below : c.args.arrow.edge < length c.edges-edges.result.now = omega (arith, arrow.edge, many, ap length c.edges-edges.ensures) in
    let is = instr_is g c.edges-edges.result.now c.args.arrow c.index-edges-arrow.result c.edges-edges.ensures below in
    let over = over_there g c.flow.inside.frame.now c.args.arrow c.graphs_law.ensures c.well_made.ensures c.flow.invariant.over arrow in
    subst (λ (i : InstrOf ℕ). IsInstrOver c.args.state.now.layout i) is
    (subst (λ (l : Layout). IsInstrOver l (instr_of g c.args.arrow)) (ap (λ (a : Flow). a.layout) c.flow.view_is ∙ sym c.requires.layout) over)

pub returns : goal.returns
returns c =
    let g = graph_view c.flow.inside.graph.now in
    let arrow = subst (λ (a : Flow). IsArrow (graph_view a.graph) c.args.arrow) (sym c.flow.view_is) c.requires.arrow in
    let many = length-map c.edges-edges.result.now edge_view in
    let below : c.args.arrow.edge < length c.edges-edges.result.now = omega (arith, arrow.edge, many, ap length c.edges-edges.ensures) in
    let is = instr_is g c.edges-edges.result.now c.args.arrow c.index-edges-arrow.result c.edges-edges.ensures below in
    let out = ap (λ (l : Layout). stated l (transferred l c.args.state.now.facts (instr_view (slice_index_or c.edges-edges.result.now c.args.arrow.edge c.index-edges-arrow.result).instr))) c.requires.layout
    ∙ ap (λ (i : InstrOf ℕ). stated c.args.flow.now.layout (transferred c.args.flow.now.layout c.args.state.now.facts i)) (sym is ∙ ap (λ (a : Flow). instr_of (graph_view a.graph) c.args.arrow) c.flow.view_is) in
    c.in_ok-passed.ensures.value ∙ out
