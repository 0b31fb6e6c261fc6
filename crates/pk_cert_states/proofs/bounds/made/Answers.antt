use Rattle.std.proofs.Common.{◌*◌, arith}
use Rattle.pk_cert_states.specs.Parts.{bound_of}
use Rattle.pk_cert_states.proofs.Filling.{row_done}
use Rattle.pk_cert_states.proofs.bounds.made.Goals as goal

pub loop-i-preserved : goal.loop-i-preserved
loop-i-preserved c = row_done c.args.n (bound_of c.args.symbols.now (2 * c.args.n)) c.loop-i.i c.loop-j.j c.loop-j.m c.loop-j.invariant (omega (arith, c.loop-j-test.false))
