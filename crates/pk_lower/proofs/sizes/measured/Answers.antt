use Rattle.pk_typed.specs.Views.{unit_tree}
use Rattle.pk_lower.proofs.SizeLemmas.{measured_is}
use Rattle.pk_lower.proofs.sizes.measured.Goals as goal

pub returns : goal.returns
returns c =
    measured_is (unit_tree c.args.unit.now) c.args.sizes.now c.args.function _ _ _ _ _ _ c.new-draft.ensures c.context-context.ensures c.no_region.ensures c.in_ok-lower_part.ensures c.points.ensures c.variables.ensures
