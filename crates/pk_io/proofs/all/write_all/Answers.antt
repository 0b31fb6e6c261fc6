use Rattle.std.proofs.Common.{arith}
use Rattle.std.proofs.lemmas.Bool.Decides.{nat_tests}
use Rattle.pk_io.proofs.Pieces.{Appends-next}
use Rattle.pk_io.proofs.all.write_all.Goals as goal

pub loop-sent-preserved : goal.loop-sent-preserved
loop-sent-preserved g c = record {
  within = omega (arith, c.in-Ok.ensures.count);
  written = Appends-next _ _ _ _ _ _ c.loop-sent.invariant.written c.in-Ok.ensures.bytes;
  faults = omega arith;
  turns = grind (arith, nat_tests);
}
