-- Neither set has an object.
use Rattle.pk_type_expression.proofs.MentionLemmas.{before_none}
use Rattle.pk_type_expression.proofs.mentions.Before.none.Goals as goal

pub returns : goal.returns
returns c = before_none (record { named = c.new.result; changed = c.new-2.result }) c.new.ensures c.new-2.ensures
