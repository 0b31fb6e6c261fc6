use Rattle.std.proofs.Common.{refl, arith}
use Rattle.pk_analysis.proofs.PartLemmas.{parts_turn}
use Rattle.pk_analysis.proofs.parts.parts.Goals as goal

pub loop-at-preserved : goal.loop-at-preserved
loop-at-preserved c =
    parts_turn c.args.plan.now c.components-components.result.now c.loop-at.at (record { head = 0; exit = 0; first = 0; end = 0 }) c.loop-at.parts.items _ c.axioms.ensures.axioms c.components-components.ensures (omega arith) c.loop-at.invariant refl
