use Rattle.std.specs.Prelude.{◌*◌, ◌≤◌}
use Rattle.std.proofs.Common.{refl, subst}
use Rattle.pk_octmat.specs.Octagon.{Octagon}
use Rattle.pk_octclose.proofs.Uncapped.{small_all}
use Rattle.pk_octclose.proofs.bounded.small.Goals as goal

pub returns : goal.returns
returns c =
    let few : 2 * c.args.m.now.vars ≤ c.loop-i.i = subst (λ (o : Octagon). 2 * o.vars ≤ c.loop-i.i) c.m.view_is c.loop-i-test.false in
    (λ e. small_all c.args.m.now c.loop-i.i few c.loop-i.invariant, λ h. refl)
