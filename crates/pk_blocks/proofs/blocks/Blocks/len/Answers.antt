use Rattle.std.proofs.Common.{◌∙◌, ap, sym, length}
use Rattle.std.specs.Arc.{arc_value}
use Rattle.pk_blocks.proofs.Flat.{taken_size}
use Rattle.pk_blocks.proofs.blocks.Blocks.len.Goals as goal

pub returns-clause-value : goal.returns-clause-value
returns-clause-value g c = sym (ap length (sym c.self.view_is) ∙ taken_size c.self.inside.count (arc_value c.self.inside.groups).items c.self.invariant.0 c.self.invariant.1)
