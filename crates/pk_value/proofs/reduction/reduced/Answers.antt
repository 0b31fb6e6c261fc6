use Rattle.std.proofs.Common.{ap, ◌∙◌, rules, FitsSigned, to_z, of_z}
use Rattle.std.specs.Int.{w128}
use Rattle.std.proofs.lemmas.Int.{to_z-of_z}
use Rattle.pk_interval.specs.Ranges.{Range}
use Rattle.pk_congr.specs.Classes.{held_number, next_up_of, next_down_of}
use Rattle.pk_value.specs.Reduction.{reduced_if}
use Rattle.pk_value.proofs.Reducing.{held_small, held_red}
use Rattle.pk_value.proofs.reduction.reduced.Goals as goal

pub from_next-requires : goal.from_next-requires
from_next-requires c = rw c.next_up.ensures (held_small (next_up_of c.args.congr.now (to_z w128 (of_z w128 c.interval.inside.lo))))

pub returns : goal.returns
returns c =
    let range = c.args.interval.now in
    let class = c.args.congr.now in
    let low = ap (λ (r : Range). r.lo) c.interval.view_is in
    let high = ap (λ (r : Range). r.hi) c.interval.view_is in
    let fits_low : FitsSigned w128 c.interval.inside.lo = search rules in
    let fits_high : FitsSigned w128 c.interval.inside.hi = search rules in
    let up = simp to_z-of_z at c.next_up.ensures in
    let down = simp to_z-of_z at c.next_down.ensures in
    c.from_next.ensures
    ∙ ap (λ o. reduced_if class o c.next_down.result) (up ∙ ap (λ x. held_number (next_up_of class x)) low)
    ∙ ap (λ o. reduced_if class (held_number (next_up_of class range.lo)) o) (down ∙ ap (λ x. held_number (next_down_of class x)) high)
    ∙ held_red c.args.t range class c.requires c.reduced_law.ensures.from
