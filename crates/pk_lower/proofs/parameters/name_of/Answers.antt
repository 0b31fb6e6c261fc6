use Rattle.std.proofs.Common.{◌∙◌, sym, ap, Some}
use Rattle.pk_lower.proofs.PartLemmas.{local_name, local_past}
use Rattle.pk_lower.proofs.parameters.name_of.Goals as goal

pub returns-in-None : goal.returns-in-None
returns-in-None c = sym c.in-None.is ∙ local_name c.args.context.now c.args.object _ c.if-object-context.true

pub returns-in_ok-copy-in-Some : goal.returns-in_ok-copy-in-Some
returns-in_ok-copy-in-Some c = ap Some c.in_ok-copy-in-Some.ensures ∙ sym c.in-Some.is ∙ local_name c.args.context.now c.args.object _ c.if-object-context.true

pub returns-else-object-context : goal.returns-else-object-context
returns-else-object-context c = local_past c.args.context.now c.args.object c.if-object-context.false
