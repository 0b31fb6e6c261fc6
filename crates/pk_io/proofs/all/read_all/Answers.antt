use Rattle.std.proofs.KnownBytes.{Consumes-trans}
use Rattle.pk_io.proofs.all.read_all.Goals as goal

pub returns-in_err-extend_from_slice-in-Ok-clause-rest : goal.returns-in_err-extend_from_slice-in-Ok-clause-rest
returns-in_err-extend_from_slice-in-Ok-clause-rest g c =
    (_, Consumes-trans _ _ _ _ _ c.loop-buffer.invariant.read c.in-Ok.ensures.bytes.0)

pub returns-clause-fault : goal.returns-clause-fault
returns-clause-fault g c = λ e. absurd (cc)
