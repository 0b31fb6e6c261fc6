use Rattle.std.proofs.Common.{arith}
use Rattle.pk_cert_report.proofs.checking.unfit_status.Goals as goal

pub overflow_cast-result : goal.overflow_cast-result
overflow_cast-result c = let small = c.requires c.in-State.v c.in-State.is in omega (arith, small)
