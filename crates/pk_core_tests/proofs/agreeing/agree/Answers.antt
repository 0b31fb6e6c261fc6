use Rattle.std.proofs.Common.{sym, ◌∙◌}
use Rattle.std.specs.Arc.{arc_value}
use Rattle.pk_analysis.specs.Flows.{equations_of}
use Rattle.pk_core_tests.proofs.Same_layouts.{same_layout}
use Rattle.pk_core_tests.proofs.agreeing.agree.Goals as goal

pub same_cells-requires : goal.same_cells-requires
same_cells-requires c =
    let a = c.args.core.now.system in
    let e = c.loop-e.e in
    λ s t is also. same_layout a e ((equations_of a).part e) (arc_value c.cell.result.now) (arc_value c.cell-else-run.result.now) c.cell.ensures.held (c.requires.held e (arc_value c.cell-else-run.result.now) c.cell-else-run.ensures) s t (sym c.deref.ensures ∙ is) (sym c.deref-else-run.ensures ∙ also)
