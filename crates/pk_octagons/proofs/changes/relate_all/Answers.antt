use Rattle.std.proofs.Common.{◌<◌, ◌*◌, ◌∙◌, ap, subst, refl, set, length, slice_index_or, to_z, of_z, Some}
use Rattle.std.specs.Prelude.{◌/◌, IfSome}
use Rattle.std.specs.Int.{w128}
use Rattle.std.proofs.lemmas.Int.{to_z-of_z}
use Rattle.pk_octops.specs.Guards.{guard_of}
use Rattle.pk_octagons.specs.declared.packs.Place.{Place}
use Rattle.pk_octagons.specs.Packs.{side_of, side_over}
use Rattle.pk_octagons.specs.Octagons.{octagon_at}
use Rattle.pk_octagons.specs.Changes.{or_else, changed_at, related_in, each_changed}
use Rattle.pk_octagons.proofs.Overs.{is_there, over_more, over_end, related_at, related_is, related_vars, terms_there}
use Rattle.pk_octagons.proofs.changes.relate_all.Goals as goal

abbrev zero : Place
zero = record { pack = 0; place = 0 }

pub side_at-first-requires : goal.side_at-first-requires
side_at-first-requires c = (c.places-places.ensures.there c.loop-i.i zero c.loop-i-test.true).few

pub relate_one-requires-clause-terms : goal.relate_one-requires-clause-terms
relate_one-requires-clause-terms c =
    let packs = c.args.packs.now in
    let place = slice_index_or c.places-places.result.now c.loop-i.i zero in
    let here = is_there packs c.loop-i.all.items (c.args.a / 2) place c.loop-i.invariant.widths (c.places-places.ensures.there c.loop-i.i zero c.loop-i-test.true) in
    terms_there packs c.loop-i.all.items c.args.a c.args.b c.args.over.now place c.side_at-first.result c.side_over-second.result here c.requires.terms c.side_at-first.ensures (c.side_over-second.ensures.value ∙ ap (λ l. side_over c.args.over.now l c.args.b) c.pack.ensures.value)
    (subst (λ n. IfSome c.side_over-second.result (λ t. t < 2 * n)) (ap length c.pack.ensures.value) c.side_over-second.ensures.there)

pub loop-i-preserved : goal.loop-i-preserved
loop-i-preserved c =
    let packs = c.args.packs.now in
    let ms = c.loop-i.all.items in
    let z = to_z w128 (of_z w128 c.args.c) in
    let place = slice_index_or c.places-places.result.now c.loop-i.i zero in
    let m = octagon_at ms place.pack in
    over_more packs (related_at packs c.args.a c.args.b z c.args.over.now) c.places-places.result.now c.loop-i.i place zero c.args.all.now.items ms _ c.loop-i.invariant c.loop-i-test.true refl (related_vars packs c.args.a c.args.b z c.args.over.now place)
    (c.in_ok-relate_one.ensures ∙ ap (λ s. set ms place.pack (changed_at c.side_over-second.result m (λ k. or_else m (guard_of m (Some s) (Some k) z)))) c.side_at-first.ensures
    ∙ ap (λ u. set ms place.pack (changed_at u m (λ k. or_else m (guard_of m (Some (side_of c.args.a place.place)) (Some k) z)))) (c.side_over-second.ensures.value ∙ ap (λ l. side_over c.args.over.now l c.args.b) c.pack.ensures.value))

pub returns : goal.returns
returns c =
    let packs = c.args.packs.now in
    let olds = c.args.all.now.items in
    let z = to_z w128 (of_z w128 c.args.c) in
    over_end packs (c.args.a / 2) (related_at packs c.args.a c.args.b z c.args.over.now) (related_in c.args.a c.args.b z c.args.over.now) c.places-places.result.now c.loop-i.i olds c.loop-i.all.items (related_is packs c.args.a c.args.b z c.args.over.now) c.places-places.ensures.value c.requires.widths c.loop-i-test.false
    c.loop-i.invariant
    ∙ ap (λ y. each_changed (related_in c.args.a c.args.b y c.args.over.now) packs olds) (to_z-of_z w128 c.args.c c.ranges.c)
