use Rattle.std.specs.Prelude.{List, Option, ℤ}
use Rattle.std.proofs.Common.{◌∙◌, subst, sym}
use Rattle.std.proofs.lemmas.List.{with_items_is}
use Rattle.pk_octmat.specs.Half.{IsKept}
use Rattle.pk_octmat.proofs.matrix.Matrix.forget.Goals as goal

pub invariant_of-self : goal.invariant_of-self
invariant_of-self c =
    subst (λ (xs : List (Option ℤ)). IsKept c.self.inside.vars xs) (sym (with_items_is c.self.inside.cells c.forget_cells.new.cells (c.forget_cells.auto.cells ∙ c.deref_mut.ensures.len)))
    (record { few = c.self.invariant.few; half = c.forget_cells.ensures.whole })
