-- Without packs an analysis has one octagon.
use Rattle.std.specs.Prelude.{◌≡◌, Bool, false, if◌then◌else◌, [], ◌∷◌}
use Rattle.std.proofs.Common.{ap}
use Rattle.pk_graph.specs.Graphs.{GraphOf}
use Rattle.pk_graph.specs.OctagonVariables.{octagon_variables_of}
use Rattle.pk_transfer.specs.Graphs.{layout_of, layout_over}
use Rattle.pk_plan.specs.Plans.{PlanView}
use Rattle.pk_packs.specs.Packs.{packs_of}
use Rattle.pk_analysis.specs.declared.analysis.Options.{Options}
use Rattle.pk_analysis.specs.Layouts.{layout_for}

pub one_octagon : (g : GraphOf) (p : PlanView) (o : Options) → o.packs ≡ false → layout_for g p o ≡ layout_of g o.oct
one_octagon g p o none = ap (λ (b : Bool). layout_over g (if b then packs_of g p o.oct else octagon_variables_of g o.oct ∷ [])) none
