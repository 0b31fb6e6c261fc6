use Rattle.pk_cert_states.proofs.Settled.{every_line_is_settled}
use Rattle.pk_cert_states.proofs.laws.every_line_is_settled.Goals as goal

pub returns : goal.returns
returns c = every_line_is_settled
