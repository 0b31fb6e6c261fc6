use Rattle.pk_cert_states.proofs.Telling.{facts_have_lines}
use Rattle.pk_cert_states.proofs.laws.facts_have_lines.Goals as goal

pub returns : goal.returns
returns c = facts_have_lines
