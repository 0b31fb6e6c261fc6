-- The set stands for the first.
use Rattle.std.proofs.Common.{◌∙◌}
use Rattle.pk_type_expression.proofs.MentionLemmas.{meets_set, set_of_more'}
use Rattle.pk_type_expression.proofs.mentions.meet.Goals as goal

pub returns : goal.returns
returns c = c.meets.ensures ∙ meets_set c.args.first.now c.args.second.now c.add_all.new.self (set_of_more' c.args.first.now c.new-objects.result c.add_all.new.self c.new-objects.ensures c.in_ok-add_all.ensures)
