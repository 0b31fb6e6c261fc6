use Rattle.std.proofs.Common.{arith}
use Rattle.pk_calls.proofs.CallLemmas.{has_body_in}
use Rattle.pk_calls.proofs.functions.entry.Goals as goal

pub returns : goal.returns
returns c = λ f h. c.loop-f.invariant f (omega (arith, has_body_in c.args.unit.now f h.0)) h
