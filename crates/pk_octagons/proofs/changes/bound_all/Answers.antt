use Rattle.std.proofs.Common.{◌<◌, ◌*◌, ◌∙◌, ap, sym, subst, refl, set, length, slice_index_or, to_z, of_z, Some}
use Rattle.std.specs.Prelude.{◌/◌, None, IfSome}
use Rattle.std.specs.Int.{w128}
use Rattle.std.proofs.lemmas.Int.{to_z-of_z}
use Rattle.pk_octops.specs.Guards.{guard_of}
use Rattle.pk_octagons.specs.declared.packs.Place.{Place}
use Rattle.pk_octagons.specs.Packs.{side_over}
use Rattle.pk_octagons.specs.Octagons.{octagon_at}
use Rattle.pk_octagons.specs.Changes.{or_else, changed_at, bounded_in, each_changed}
use Rattle.pk_octagons.proofs.Overs.{is_there, over_more, over_end, bounded_at, bounded_is, bounded_vars}
use Rattle.pk_octagons.proofs.changes.bound_all.Goals as goal

abbrev zero : Place
zero = record { pack = 0; place = 0 }

pub bound_one-requires-clause-place : goal.bound_one-requires-clause-place
bound_one-requires-clause-place c =
    let place = slice_index_or c.places-places.result.now c.loop-i.i zero in
    let here = is_there c.args.packs.now c.loop-i.all.items (c.args.a / 2) place c.loop-i.invariant.widths (c.places-places.ensures.there c.loop-i.i zero c.loop-i-test.true) in
    subst (λ n. IfSome c.side_over-first.result (λ t. t < 2 * n)) (ap length c.pack.ensures.value ∙ sym here.width) c.side_over-first.ensures.there

pub loop-i-preserved : goal.loop-i-preserved
loop-i-preserved c =
    let packs = c.args.packs.now in
    let ms = c.loop-i.all.items in
    let z = to_z w128 (of_z w128 c.args.c) in
    let place = slice_index_or c.places-places.result.now c.loop-i.i zero in
    let m = octagon_at ms place.pack in
    over_more packs (bounded_at packs c.args.a z c.args.over.now) c.places-places.result.now c.loop-i.i place zero c.args.all.now.items ms _ c.loop-i.invariant c.loop-i-test.true refl (bounded_vars packs c.args.a z c.args.over.now place)
    (c.in_ok-bound_one.ensures
    ∙ ap (λ u. set ms place.pack (changed_at u m (λ k. or_else m (guard_of m (Some k) None z)))) (c.side_over-first.ensures.value ∙ ap (λ l. side_over c.args.over.now l c.args.a) c.pack.ensures.value))

pub returns : goal.returns
returns c =
    let packs = c.args.packs.now in
    let olds = c.args.all.now.items in
    let z = to_z w128 (of_z w128 c.args.c) in
    over_end packs (c.args.a / 2) (bounded_at packs c.args.a z c.args.over.now) (bounded_in c.args.a z c.args.over.now) c.places-places.result.now c.loop-i.i olds c.loop-i.all.items (bounded_is packs c.args.a z c.args.over.now) c.places-places.ensures.value c.requires
    c.loop-i-test.false c.loop-i.invariant
    ∙ ap (λ y. each_changed (bounded_in c.args.a y c.args.over.now) packs olds) (to_z-of_z w128 c.args.c c.ranges.c)
