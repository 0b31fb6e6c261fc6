-- There are none, or more than one.
use Rattle.std.proofs.Common.{sym, ◌∙◌}
use Rattle.pk_type_expression.proofs.ListLemmas.{not_one}
use Rattle.pk_type_expression.proofs.calls.only.Goals as goal

pub returns-then-len-ne1 : goal.returns-then-len-ne1
returns-then-len-ne1 c = sym (not_one c.args.arguments (λ h. c.if-len-ne1.true (c.len.ensures ∙ h)))
