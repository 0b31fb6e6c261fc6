-- by its length
use Rattle.std.proofs.Common.{◌∙◌}
use Rattle.pk_type_expression.proofs.MentionLemmas.{empty_by_length}
use Rattle.pk_type_expression.proofs.mentions.is_none.Goals as goal

pub returns : goal.returns
returns c = c.is_empty.ensures ∙ empty_by_length c.args.objects.now
