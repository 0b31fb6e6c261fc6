use Rattle.std.proofs.Common.{refl, ◌*◌}
use Rattle.pk_octclose.proofs.Again.{closing_not_empty, closings_same}
use Rattle.pk_octmat.specs.Octagon.{entry}
use Rattle.pk_octclose.proofs.laws.closing_is_determined.Goals as goal

pub returns : goal.returns
returns c = record {
  one = λ m r s. closings_same (2 * m.vars) m.vars (entry m) r s refl;
  none = λ m r. closing_not_empty (2 * m.vars) m.vars m.cells r refl;
}
