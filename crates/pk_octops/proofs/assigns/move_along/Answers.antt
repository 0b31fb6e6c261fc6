use Rattle.std.specs.Prelude.{◌≡◌}
use Rattle.std.proofs.Common.{◌∙◌, ap, sym}
use Rattle.pk_octmat.specs.Octagon.{Octagon}
use Rattle.pk_octmat.specs.Half.{octagon_in}
use Rattle.pk_octmat.proofs.Half.{kept_one}
use Rattle.pk_octops.proofs.assigns.move_along.Goals as goal

pub move_cells-requires-clause-same : goal.move_cells-requires-clause-same
move_cells-requires-clause-same c =
    let same : octagon_in c.r.inside.vars c.r.inside.cells.items ≡ octagon_in c.m.inside.vars c.m.inside.cells.items = c.r.view_is ∙ c.in_ok-r.ensures ∙ sym c.m.view_is in
    c.deref_mut.ensures.value
    ∙ kept_one c.r.inside.vars c.m.inside.vars c.r.inside.cells.items c.m.inside.cells.items (ap (λ (o : Octagon). o.vars) same) c.r.invariant c.m.invariant same ∙ sym c.deref.ensures.value
