use Rattle.std.proofs.Common.{drop}
use Rattle.pk_octagons.specs.Values.{AreValues}
use Rattle.pk_state.proofs.Loose.{AreHalfway}
use Rattle.pk_state.proofs.values.reduce_values.Given as goal

-- those up to k are reduced
abbrev pub invariant-loop-k : goal.invariant-loop-k
invariant-loop-k l = AreValues l.frame.types l.values × AreHalfway l.fn.values l.values (drop l.k l.loose)
