use Rattle.pk_lower_row.specs.Views.{context_in}
use Rattle.pk_typed.specs.Views.{unit_tree}
use Rattle.pk_lower.proofs.SizeLemmas.{context_is}
use Rattle.pk_lower.proofs.contexts.context.Goals as goal

pub returns : goal.returns
unfolding context_in
returns c = context_is (unit_tree c.args.unit.now) c.args.sizes.now c.args.path c.args.first c.args.function _ _ c.locals.ensures c.returns.ensures
