use Rattle.std.specs.Prelude.{List, Option, ℤ}
use Rattle.std.proofs.Common.{◌∙◌, ap, sym}
use Rattle.pk_octmat.specs.Half.{octagon_in}
use Rattle.pk_octmat.proofs.Half.{kept_one}
use Rattle.pk_octmat.proofs.matrix.Matrix.equals.Goals as goal

pub returns-then-self-other : goal.returns-then-self-other
returns-then-self-other c =
    let m = c.self.inside.vars in
    let xs = c.self.inside.cells.items in
    let ys = c.other.inside.cells.items in (
      λ e. sym c.self.view_is ∙ ap (λ (zs : List (Option ℤ)). octagon_in m zs) (sym c.deref.ensures.value ∙ c.same_cells.ensures.0 e ∙ c.deref-then-self-other.ensures.value) ∙ ap (λ n. octagon_in n ys) c.if-self-other.true ∙ c.other.view_is,
      λ e. c.same_cells.ensures.1 (c.deref.ensures.value ∙ kept_one m c.other.inside.vars xs ys c.if-self-other.true c.self.invariant c.other.invariant (c.self.view_is ∙ e ∙ sym c.other.view_is) ∙ sym c.deref-then-self-other.ensures.value),
    )
