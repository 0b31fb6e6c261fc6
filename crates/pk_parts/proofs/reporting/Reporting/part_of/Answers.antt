use Rattle.std.proofs.Common.{ℕ, ◌≡◌, ◌∙◌, List, None, ap, sym, subst, map}
use Rattle.std.specs.Prelude.{All}
use Rattle.std.specs.Arc.{arc_value}
use Rattle.std.proofs.lemmas.List.{length-map}
use Rattle.pk_graph.specs.Graphs.{GraphOf}
use Rattle.pk_graph.specs.Shown.{graph_view}
use Rattle.pk_state.specs.Facts.{Stated}
use Rattle.pk_state.specs.Layouts.{Layout}
use Rattle.pk_phases.specs.declared.equations.Cell.{Cell}
use Rattle.pk_phases.specs.Equations.{value_of}
use Rattle.pk_analysis.specs.Flows.{stated}
use Rattle.pk_parts.specs.Cells.{pieces_by_cells}
use Rattle.pk_parts.specs.Kept.{ReportingOf, part_of}
use Rattle.pk_parts.proofs.ByCells.{many_held, over_held}
use Rattle.pk_parts.proofs.reporting.Reporting.part_of.Goals as goal

pub pieces_by_cells-requires-clause-size : goal.pieces_by_cells-requires-clause-size
pieces_by_cells-requires-clause-size c =
    many_held c.args.self.now.flow c.args.points.now (map arc_value c.args.cells.now) c.requires ∙ length-map c.args.cells.now arc_value

pub pieces_by_cells-requires-clause-held : goal.pieces_by_cells-requires-clause-held
pieces_by_cells-requires-clause-held c =
    let cells = map arc_value c.args.cells.now in
    let layout : c.self.inside.frame.now ≡ c.args.self.now.flow.layout = c.self.invariant.layout ∙ ap (λ (r : ReportingOf). r.flow.layout) c.self.view_is in
    subst (λ (l : Layout). All (λ (x : Cell Stated). (value_of (stated l None) x).layout ≡ l) cells) (sym layout)
    (over_held c.args.self.now.flow c.args.points.now cells c.requires)

pub returns : goal.returns
returns c =
    let i = c.self.inside in
    let points = c.args.points.now in
    let cells = map arc_value c.args.cells.now in
    c.new.ensures
    ∙ c.in_ok-pieces.ensures
    ∙ ap (λ (hs : List ℕ). pieces_by_cells i.all (graph_view i.graph.now) i.frame.now hs points cells) c.deref-2.ensures.value
    ∙ ap (λ (g : GraphOf). pieces_by_cells i.all g i.frame.now i.heads.items points cells) c.self.invariant.graph
    ∙ ap (λ (l : Layout). pieces_by_cells i.all (graph_view i.analysis.graph) l i.heads.items points cells) c.self.invariant.layout
    ∙ ap (λ (r : ReportingOf). part_of r points cells) c.self.view_is
