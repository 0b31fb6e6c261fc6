use Rattle.std.proofs.Common.{refl, subst, sym, ◌*◌}
use Rattle.pk_octclose.proofs.Again.{closing_again}
use Rattle.pk_octclose.specs.Closing.{IsClosing}
use Rattle.pk_octmat.specs.Octagon.{cell_at, entry}
use Rattle.pk_octclose.proofs.laws.closing_is_closed.Goals as goal

pub returns : goal.returns
returns c = λ m r whole same is.
    subst (λ n. IsClosing (2 * n) (cell_at (2 * n) r.cells) (cell_at (2 * n) r.cells)) (sym same)
    (closing_again (2 * m.vars) m.vars m.cells r.cells refl whole (subst (λ n. IsClosing (2 * m.vars) (entry m) (cell_at (2 * n) r.cells)) same is))
