use Rattle.pk_calls.proofs.ReasonLemmas.{refusals_are_met}
use Rattle.pk_calls.proofs.laws.refusals_are_met.Goals as goal

pub returns : goal.returns
returns c = refusals_are_met
