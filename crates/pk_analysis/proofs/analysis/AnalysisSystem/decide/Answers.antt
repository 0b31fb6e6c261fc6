use Rattle.std.proofs.Common.{map, sym, subst}
use Rattle.std.specs.Arc.{arc_value}
use Rattle.pk_iterate.specs.Behaviour.{HoldEach}
use Rattle.pk_phases.specs.Equations.{reads_in, may_hold_of}
use Rattle.pk_analysis.specs.Parts.{part_at}
use Rattle.pk_analysis.specs.Flows.{Flow, equations_of, IsOverFlow}
use Rattle.pk_analysis.proofs.analysis.AnalysisSystem.decide.Goals as goal

pub decide-requires : goal.decide-requires
decide-requires c =
    subst (λ (a : Flow). HoldEach (may_hold_of (equations_of a) (IsOverFlow a)) (reads_in (equations_of a) c.args.x (part_at a.parts c.args.x)) (map arc_value c.args.inputs.now)) (sym c.self.view_is) c.requires
