use Rattle.std.specs.Prelude.{◌≡◌, ◌<◌, ◌/◌, ◌+◌, ◌≤ℤ◌, Some, length}
use Rattle.std.specs.Int.{w128}
use Rattle.std.specs.Int.RustNames.{FitsSigned}
use Rattle.std.proofs.Common.{◌∙◌, ap, subst, sym, arith, set}
use Rattle.std.proofs.lemmas.Int.{to_z-of_z}
use Rattle.pk_octpoints.specs.Parts.{lowered, part_side, raised, signed}
use Rattle.pk_octpoints.specs.Points.{IsPart, nearest_in, number_at}
use Rattle.pk_octpoints.proofs.Near.{nearest_is, nearest_room, part_written, side_written, upper_near}
use Rattle.pk_octpoints.proofs.points.place.Goals as goal

pub raised-requires : goal.raised-requires
raised-requires c = upper_near c.args.m.now c.requires.part.0 c.args.part.now c.opposite.result c.upper-low.result c.is_octagon.ensures c.requires.part.1 c.requires.part.2 c.upper-low.ensures

pub signed-requires : goal.signed-requires
signed-requires c =
    let wished = to_z-of_z w128 c.args.wish c.ranges.wish in
    let first : FitsSigned w128 c.raised.result = record { sfits = c.raised.type_inv } in
    let second : FitsSigned w128 c.lowered.result = record { sfits = c.lowered.type_inv } in
    let v =
    nearest_is c.args.m.now c.args.part.now c.args.p c.opposite.result c.args.wish c.raised.result c.lowered.result c.upper-high.result c.upper-low.result c.opposite.ensures c.upper-high.ensures c.upper-low.ensures
    (c.raised.ensures ∙ ap (λ z. raised z c.upper-low.result) wished) (c.lowered.ensures ∙ ap (λ z. lowered z c.upper-high.result) (to_z-of_z w128 c.raised.result first)) in
    let n = nearest_room c.args.m.now c.requires.part.0 c.args.part.now c.args.p c.args.wish c.lowered.result c.is_octagon.ensures c.requires.part.1 c.requires.part.2 c.requires.part.3 v in
    record { low = subst (λ z. _ ≤ℤ z) (sym (to_z-of_z w128 c.lowered.result second)) n.0; high = subst (λ z. z ≤ℤ _) (sym (to_z-of_z w128 c.lowered.result second)) n.1 }

pub returns-clause-part : goal.returns-clause-part
returns-clause-part c = λ k h n.
    let wished = to_z-of_z w128 c.args.wish c.ranges.wish in
    let first : FitsSigned w128 c.raised.result = record { sfits = c.raised.type_inv } in
    let second : FitsSigned w128 c.lowered.result = record { sfits = c.lowered.type_inv } in
    let v =
    nearest_is c.args.m.now c.args.part.now c.args.p c.opposite.result c.args.wish c.raised.result c.lowered.result c.upper-high.result c.upper-low.result c.opposite.ensures c.upper-high.ensures c.upper-low.ensures
    (c.raised.ensures ∙ ap (λ z. raised z c.upper-low.result) wished) (c.lowered.ensures ∙ ap (λ z. lowered z c.upper-high.result) (to_z-of_z w128 c.raised.result first)) in
    let s : c.signed.result ≡ Some (signed c.args.p (nearest_in c.args.m.now c.args.part.now c.args.p c.args.wish)) =
    c.signed.ensures ∙ ap (λ z. Some (signed c.args.p z)) (to_z-of_z w128 c.lowered.result second ∙ v) in
    subst (λ b. IsPart c.args.m.now (k + 1) (set c.args.part.now (c.args.p / 2) b)) (sym s) (part_written c.args.m.now k c.args.part.now c.args.p c.args.wish c.is_octagon.ensures c.requires.tight c.requires.place h n)

pub returns-clause-here : goal.returns-clause-here
returns-clause-here c =
    let wished = to_z-of_z w128 c.args.wish c.ranges.wish in
    let first : FitsSigned w128 c.raised.result = record { sfits = c.raised.type_inv } in
    let second : FitsSigned w128 c.lowered.result = record { sfits = c.lowered.type_inv } in
    let v =
    nearest_is c.args.m.now c.args.part.now c.args.p c.opposite.result c.args.wish c.raised.result c.lowered.result c.upper-high.result c.upper-low.result c.opposite.ensures c.upper-high.ensures c.upper-low.ensures
    (c.raised.ensures ∙ ap (λ z. raised z c.upper-low.result) wished) (c.lowered.ensures ∙ ap (λ z. lowered z c.upper-high.result) (to_z-of_z w128 c.raised.result first)) in
    let s : c.signed.result ≡ Some (signed c.args.p (nearest_in c.args.m.now c.args.part.now c.args.p c.args.wish)) =
    c.signed.ensures ∙ ap (λ z. Some (signed c.args.p z)) (to_z-of_z w128 c.lowered.result second ∙ v) in
    let size = c.requires.part.2.size in
    let inside : c.args.p / 2 < length c.args.part.now = omega (arith, size, c.requires.place) in
    subst (λ b. part_side (number_at (set c.args.part.now (c.args.p / 2) b)) c.args.p ≡ Some (nearest_in c.args.m.now c.args.part.now c.args.p c.args.wish)) (sym s)
    (side_written c.args.part.now c.args.p (nearest_in c.args.m.now c.args.part.now c.args.p c.args.wish) inside)
