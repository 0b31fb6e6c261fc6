use Rattle.std.proofs.Common.{refl, sym, subst}
use Rattle.pk_cert_states.specs.Lines.{HasOne}
use Rattle.pk_cert_cells.proofs.reading.shape.Goals as goal

pub octagon_size-requires : goal.octagon_size-requires
octagon_size-requires c = subst HasOne (sym c.requires.frame.1) refl
