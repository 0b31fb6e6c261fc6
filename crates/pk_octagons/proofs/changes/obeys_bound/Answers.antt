use Rattle.std.proofs.Common.{◌≡◌, ap, subst, Some}
use Rattle.std.specs.Prelude.{None}
use Rattle.std.specs.Int.{w128}
use Rattle.std.proofs.lemmas.Int.{to_z-of_z}
use Rattle.pk_octops.specs.Guards.{guard_of}
use Rattle.pk_octagons.specs.Changes.{or_else}
use Rattle.pk_octagons.proofs.changes.obeys_bound.Goals as goal

pub returns-in-Some : goal.returns-in-Some
returns-in-Some c = λ yes.
    let m = c.args.octagon.now in
    let exact = subst (λ z. guard_of m (Some c.in-Some.i) None z ≡ Some m) (to_z-of_z w128 c.args.c c.ranges.c) (c.obeys.ensures yes) in
    rw c.in-Some.is (ap (or_else m) exact)
