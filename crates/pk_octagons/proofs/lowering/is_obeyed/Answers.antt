use Rattle.std.proofs.Common.{ap, ◌≡◌, subst, Some}
use Rattle.std.specs.Prelude.{ℕ, ℤ, ◌+ℤ◌}
use Rattle.std.specs.Int.{w128}
use Rattle.std.proofs.lemmas.Int.{to_z-of_z}
use Rattle.pk_octmat.specs.Bounds.{lesser, capped}
use Rattle.pk_octmat.specs.Octagon.{Octagon, entry}
use Rattle.pk_octagons.proofs.Octs.{at_most_same, guard_same}
use Rattle.pk_octagons.proofs.lowering.is_obeyed.Goals as goal

pub returns-in-Some-None : goal.returns-in-Some-None
returns-in-Some-None c = λ yes.
    let m = c.args.m.now in
    let a = c.in-Some-None.a in
    let own = c.is_within.ensures yes in
    let exact = subst (λ (z : ℤ). lesser (entry m c.opposite.result a) (capped (Some (z +ℤ z))) ≡ entry m c.opposite.result a) (to_z-of_z w128 c.args.c c.ranges.c) own in
    let there = subst (λ (i : ℕ). lesser (entry m i a) (capped (Some (c.args.c +ℤ c.args.c))) ≡ entry m i a) c.opposite.ensures exact in
    rw c.in-Some-None.is-0 (rw c.in-Some-None.is-1 (ap (λ (o : Octagon). Some o) (at_most_same m a c.args.c c.is_octagon.ensures there)))

pub returns-in-Some-Some : goal.returns-in-Some-Some
returns-in-Some-Some c = λ yes.
    let m = c.args.m.now in
    let a = c.in-Some-Some.a in
    let own = c.is_at_most.ensures yes in
    let exact = subst (λ (z : ℤ). lesser (entry m c.opposite-in-Some-Some.result a) (capped (Some z)) ≡ entry m c.opposite-in-Some-Some.result a) (to_z-of_z w128 c.args.c c.ranges.c) own in
    let there = subst (λ (i : ℕ). lesser (entry m i a) (capped (Some c.args.c)) ≡ entry m i a) c.opposite-in-Some-Some.ensures exact in
    rw c.in-Some-Some.is-0 (rw c.in-Some-Some.is-1 (guard_same m a c.in-Some-Some.b c.args.c c.is_octagon.ensures there))
