use Rattle.std.specs.Prelude.{None}
use Rattle.std.proofs.Common.{refl}
use Rattle.pk_cert.proofs.Lines.{bottom_stops}
use Rattle.pk_cert.proofs.reading.bottom.Goals as goal

pub returns-in-Err : goal.returns-in-Err
returns-in-Err c = bottom_stops c.args.shape c.args.bytes.now c.in-Err.n c.requires c.in-Err.ensures

pub returns-in-Ok : goal.returns-in-Ok
returns-in-Ok c = record { line = None; is = tt; seen = refl; first = c.in-Ok.ensures }
