use Rattle.pk_cert.specs.Heads.{HasHead}
use Rattle.pk_cert.specs.Certificates.{IsCertificate}
use Rattle.pk_cert.proofs.Stops.{one_wrong}
use Rattle.pk_cert.proofs.laws.first_wrong_is_one.Goals as goal

pub returns : goal.returns
returns c = record { heads = one_wrong HasHead; lines = λ shape points h. one_wrong (IsCertificate shape points h) }
