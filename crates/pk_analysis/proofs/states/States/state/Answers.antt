use Rattle.std.specs.Prelude.{◌≡◌, ◌<◌, ℕ, None}
use Rattle.std.specs.Arc.{arc_value}
use Rattle.std.proofs.Common.{arith, ap, subst, sym, ◌∙◌}
use Rattle.pk_state.specs.Facts.{Stated}
use Rattle.pk_phases.specs.declared.equations.Cell.{Cell}
use Rattle.pk_phases.specs.Equations.{value_of}
use Rattle.pk_analysis.specs.Flows.{reduced_over, stated}
use Rattle.pk_analysis.proofs.StateLemmas.{over_at, shown_so, shown_so_many}
use Rattle.pk_analysis.proofs.states.States.state.Goals as goal

pub overflow_cast-point : goal.overflow_cast-point
overflow_cast-point c =
    let many = shown_so_many c.self.inside.frame.now c.self.inside.points c.self.inside.cells.cells c.args.self.now c.self.view_is c.self.invariant.each in
    omega (arith, many, c.self.invariant.few, c.requires)

pub reduced_state-requires : goal.reduced_state-requires
reduced_state-requires c =
    let l = c.self.inside.frame.now in
    subst (λ (x : Cell Stated). (value_of (stated l None) x).layout ≡ l) (sym c.deref.ensures)
    (over_at l c.self.inside.points c.self.inside.cells.cells c.args.point (arc_value c.cell-cell.result.now) c.self.invariant c.cell-cell.ensures)

pub returns : goal.returns
returns c =
    let l = c.self.inside.frame.now in
    let n = c.self.inside.points in
    let cells = c.self.inside.cells.cells in
    let many = shown_so_many l n cells c.args.self.now c.self.view_is c.self.invariant.each in
    shown_so l n cells c.args.self.now c.self.view_is c.args.point (arc_value c.cell-cell.result.now) c.in_ok-state.state
    (subst (λ (m : ℕ). c.args.point < m) many c.requires) c.cell-cell.ensures (c.in_ok-state.ensures ∙ ap (reduced_over l) c.deref.ensures)
