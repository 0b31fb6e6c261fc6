use Rattle.pk_core.proofs.Played_on.{Played}
use Rattle.pk_core.proofs.playing.play.Given as goal

abbrev pub invariant-loop-place : goal.invariant-loop-place
invariant-loop-place g l = Played g.Y.System.meaning l.fn.system l.fn.plan l.events l.place l.core
