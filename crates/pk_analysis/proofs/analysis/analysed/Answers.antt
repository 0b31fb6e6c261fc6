use Rattle.std.proofs.Common.{List, subst}
use Rattle.pk_phases.specs.declared.equations.Part.{Part}
use Rattle.std.specs.Global.{Vec}
use Rattle.pk_analysis.specs.declared.arrows.Arrow.{Arrow}
use Rattle.pk_analysis.specs.Arrows.{rows_of}
use Rattle.pk_analysis.specs.Reading.{AreReads}
use Rattle.pk_analysis.proofs.analysis.analysed.Goals as goal

pub invariant_of-result : goal.invariant_of-result
invariant_of-result c = record {
  over = c.requires.over;
  enough = c.requires.points;
  rising = c.in_ok-thresholds.ensures.sorted;
  arrows_are = c.in_ok-arrows.ensures;
  reads_are = subst (λ (ps : List Part). AreReads (rows_of c.in_ok-arrows.arrows.items) ps (rows_of c.in_ok-reads.reads.items)) c.deref-2.ensures.value
      (subst (λ (rs : List (Vec Arrow)). AreReads (rows_of rs) c.deref-2.result.now (rows_of c.in_ok-reads.reads.items)) c.deref.ensures.value c.in_ok-reads.ensures);
  start_is = c.in_ok-start.ensures;
}
