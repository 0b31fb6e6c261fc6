use Rattle.pk_peak.proofs.Peaking.{kept_more}
use Rattle.pk_peak.proofs.peaks.kept.Goals as goal

pub loop-point-preserved : goal.loop-point-preserved
loop-point-preserved c = kept_more c.args.of.now c.args.last.now c.loop-point.point c.loop-point.stretches.items c.push.new.self.items c.in_ok-push.ensures.items c.loop-point.invariant
