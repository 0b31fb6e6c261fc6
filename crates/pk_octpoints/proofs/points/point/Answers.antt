use Rattle.std.specs.Prelude.{ℤ, Some}
use Rattle.std.proofs.Common.{◌∙◌, ap, sym, arith}
use Rattle.std.proofs.lemmas.Int.{ints}
use Rattle.pk_octpoints.proofs.Numbers.{attains, if_ok}
use Rattle.pk_octpoints.proofs.points.point.Goals as goal

pub returns-in-Some : goal.returns-in-Some
returns-in-Some c =
    if_ok c.reach.result _ _
    (λ xs p. attains c.args.m.now c.args.i c.args.j _ xs.items (sym c.get.ensures.value ∙ c.in-Some.is ∙ ap (λ (z : ℤ). Some z) (omega (arith, ints))) p)
    c.reach.ensures
