use Rattle.pk_show_laws.proofs.TellableLemmas.{facts_are_tellable}
use Rattle.pk_show_laws.proofs.laws.facts_are_tellable.Goals as goal

pub returns : goal.returns
returns c = facts_are_tellable
