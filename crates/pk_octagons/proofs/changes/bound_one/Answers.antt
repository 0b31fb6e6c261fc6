use Rattle.std.proofs.Common.{◌≡◌, subst, set, Some}
use Rattle.std.specs.Prelude.{OnOk, None}
use Rattle.std.specs.Int.{w128}
use Rattle.std.proofs.lemmas.Int.{to_z-of_z}
use Rattle.pk_octops.specs.Guards.{guard_of}
use Rattle.pk_octagons.specs.Octagons.{octagon_at}
use Rattle.pk_octagons.specs.Changes.{or_else}
use Rattle.pk_octagons.proofs.changes.bound_one.Goals as goal

pub returns-in-Some : goal.returns-in-Some
returns-in-Some c =
    let ms = c.args.all.now.items in
    let m = octagon_at ms c.args.p in
    let exact = subst (λ z. OnOk c.guard_one.result (c.guard_one.new.all.items ≡ set ms c.args.p (or_else m (guard_of m (Some c.in-Some.i) None z)))) (to_z-of_z w128 c.args.c c.ranges.c) c.guard_one.ensures in
    rw c.in-Some.is exact
