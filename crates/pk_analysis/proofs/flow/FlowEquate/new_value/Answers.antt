use Rattle.std.proofs.Common.{◌≡◌, ◌<◌, None, List, length, map, refl, ap, sym, subst, ◌∙◌, arith}
use Rattle.std.specs.List.{slice_index_or}
use Rattle.std.specs.Arc.{arc_value}
use Rattle.std.proofs.lemmas.List.{length-map, get_or-map}
use Rattle.pk_graph.specs.Shown.{graph_view}
use Rattle.pk_state.specs.Facts.{Stated, joined}
use Rattle.pk_state.specs.Layouts.{Layout}
use Rattle.pk_transfer.specs.Transfers.{transferred}
use Rattle.pk_phases.specs.declared.equations.Cell.{Cell}
use Rattle.pk_phases.specs.Equations.{value_of}
use Rattle.pk_analysis.specs.declared.arrows.Arrow.{Arrow}
use Rattle.pk_analysis.specs.Arrows.{arrows_at, instr_of, IsArrow}
use Rattle.pk_analysis.specs.Flows.{stated}
use Rattle.pk_analysis.proofs.ArrowLemmas.{arrows_within}
use Rattle.pk_analysis.proofs.FlowLemmas.{cells_many, cell_held, arrived_step}
use Rattle.pk_analysis.proofs.flow.FlowEquate.new_value.Goals as goal

abbrev zero_arrow : Arrow
zero_arrow = record { from = 0; edge = 0 }

pub bounds-cells-i : goal.bounds-cells-i
bounds-cells-i c =
    let cells = map arc_value c.args.cells.now in
    let many = cells_many c.args.self.now c.args.e cells c.requires in
    omega (arith, many, length-map c.args.cells.now arc_value, ap (λ (xs : List Arrow). length xs) c.row-row.ensures, c.loop-i-test.true)

pub arrive-requires-clause-arrow : goal.arrive-requires-clause-arrow
arrive-requires-clause-arrow c =
    let g = graph_view c.args.self.now.graph in
    let far : c.loop-i.i < length (arrows_at g c.args.e) = omega (arith, ap (λ (xs : List Arrow). length xs) c.row-row.ensures, c.loop-i-test.true) in
    subst (IsArrow g) (sym (ap (λ (xs : List Arrow). slice_index_or xs c.loop-i.i zero_arrow) c.row-row.ensures)) (arrows_within g c.args.e c.loop-i.i zero_arrow far)

pub arrive-requires-clause-held : goal.arrive-requires-clause-held
arrive-requires-clause-held c =
    let a = c.args.self.now in
    let cells = map arc_value c.args.cells.now in
    let r = c.index-cells-i.result in
    let many = cells_many a c.args.e cells c.requires in
    let kept = length-map c.args.cells.now arc_value in
    let below : c.loop-i.i < length c.args.cells.now = omega (arith, many, kept, ap (λ (xs : List Arrow). length xs) c.row-row.ensures, c.loop-i-test.true) in
    let same = get_or-map arc_value c.args.cells.now c.loop-i.i r (arc_value r) below ∙ ap arc_value (sym c.index-cells-i.is) ∙ sym c.deref.ensures in
    subst (λ (x : Cell Stated). ◌≡◌ (value_of (stated a.layout None) x).layout a.layout) same (cell_held a c.args.e cells c.loop-i.i (arc_value r) c.requires (omega (arith, kept, below)))

pub loop-i-preserved : goal.loop-i-preserved
loop-i-preserved c =
    let a = c.args.self.now in
    let g = graph_view a.graph in
    let cells = map arc_value c.args.cells.now in
    let r = c.index-cells-i.result in
    let many = cells_many a c.args.e cells c.requires in
    let kept = length-map c.args.cells.now arc_value in
    let rows = ap (λ (xs : List Arrow). length xs) c.row-row.ensures in
    let below : c.loop-i.i < length c.args.cells.now = omega (arith, many, kept, rows, c.loop-i-test.true) in
    let same = get_or-map arc_value c.args.cells.now c.loop-i.i r (arc_value r) below ∙ ap arc_value (sym c.index-cells-i.is) ∙ sym c.deref.ensures in
    let before = c.loop-i.state.facts in
    let made = c.in_ok-state-2.ensures
    ∙ ap (λ (x : Cell Stated). stated a.layout (joined before (transferred a.layout (value_of (stated a.layout None) x).facts (instr_of g (slice_index_or c.row-row.result.now c.loop-i.i zero_arrow))))) (sym same)
    ∙ ap (λ (xs : List Arrow). stated a.layout (joined before (transferred a.layout (value_of (stated a.layout None) (slice_index_or cells c.loop-i.i (arc_value r))).facts (instr_of g (slice_index_or xs c.loop-i.i zero_arrow))))) c.row-row.ensures
    ∙ ap (λ (l : Layout). stated l (joined before (transferred a.layout (value_of (stated a.layout None) (slice_index_or cells c.loop-i.i (arc_value r))).facts (instr_of g (slice_index_or (arrows_at g c.args.e) c.loop-i.i zero_arrow))))) (sym c.loop-i.invariant.layout) in
    arrived_step a c.args.e cells c.loop-i.i zero_arrow (arc_value r) c.loop-i.state
    (stated a.layout (transferred a.layout (value_of (stated a.layout None) (slice_index_or cells c.loop-i.i (arc_value r))).facts (instr_of g (slice_index_or (arrows_at g c.args.e) c.loop-i.i zero_arrow))))
    c.in_ok-state-2.state (omega (arith, rows, c.loop-i-test.true)) (omega (arith, kept, below)) c.loop-i.invariant refl made
