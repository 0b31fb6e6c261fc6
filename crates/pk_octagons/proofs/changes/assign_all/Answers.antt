use Rattle.std.proofs.Common.{◌<◌, ◌*◌, ◌∙◌, ap, sym, subst, refl, arith, set, length, slice_index_or, to_z, of_z}
use Rattle.std.specs.Prelude.{IfSome}
use Rattle.std.specs.Int.{w128}
use Rattle.std.proofs.lemmas.Int.{to_z-of_z}
use Rattle.pk_octmat.specs.Octagon.{Octagon}
use Rattle.pk_octops.specs.Assigns.{assignment_of}
use Rattle.pk_octagons.specs.declared.packs.Place.{Place}
use Rattle.pk_octagons.specs.Packs.{side_over}
use Rattle.pk_octagons.specs.Octagons.{octagon_at}
use Rattle.pk_octagons.specs.Changes.{then_with, assigned_in, assigned_octagons}
use Rattle.pk_octagons.proofs.Zips.{read_is}
use Rattle.pk_octagons.proofs.Overs.{is_there, over_more, over_end, assigned_at, assigned_is}
use Rattle.pk_octagons.proofs.changes.assign_all.Goals as goal

abbrev zero : Place
zero = record { pack = 0; place = 0 }

pub assigned-requires-clause-variable : goal.assigned-requires-clause-variable
assigned-requires-clause-variable c =
    let ms = c.loop-i.all.items in
    let place = slice_index_or c.places-places.result.now c.loop-i.i zero in
    let here = is_there c.args.packs.now ms c.args.x place c.loop-i.invariant.widths (c.places-places.ensures.there c.loop-i.i zero c.loop-i-test.true) in
    omega (arith, here.place, here.width, ap (λ (m : Octagon). m.vars) (read_is ms place.pack c.index.result.now here.octagon c.index.ensures))

pub assigned-requires-clause-term : goal.assigned-requires-clause-term
assigned-requires-clause-term c =
    let ms = c.loop-i.all.items in
    let place = slice_index_or c.places-places.result.now c.loop-i.i zero in
    let here = is_there c.args.packs.now ms c.args.x place c.loop-i.invariant.widths (c.places-places.ensures.there c.loop-i.i zero c.loop-i-test.true) in
    subst (λ n. IfSome c.side_if-side.result (λ t. t < 2 * n))
    (ap length c.pack.ensures.value ∙ sym here.width ∙ sym (ap (λ (m : Octagon). m.vars) (read_is ms place.pack c.index.result.now here.octagon c.index.ensures))) c.side_if-side.ensures.there

pub loop-i-preserved : goal.loop-i-preserved
loop-i-preserved c =
    let packs = c.args.packs.now in
    let ms = c.loop-i.all.items in
    let z = to_z w128 (of_z w128 c.args.c) in
    let place = slice_index_or c.places-places.result.now c.loop-i.i zero in
    let here = is_there packs ms c.args.x place c.loop-i.invariant.widths (c.places-places.ensures.there c.loop-i.i zero c.loop-i-test.true) in
    over_more packs (assigned_at packs c.args.term z c.args.over.now) c.places-places.result.now c.loop-i.i place zero c.args.all.now.items ms _ c.loop-i.invariant c.loop-i-test.true refl (λ m. refl)
    (ap (set ms place.pack)
    (c.in_ok-all.ensures ∙ ap (λ (o : Octagon). assignment_of o place.place c.side_if-side.result z) (read_is ms place.pack c.index.result.now here.octagon c.index.ensures)
    ∙ ap (λ s. assignment_of (octagon_at ms place.pack) place.place s z) (c.side_if-side.ensures.value ∙ ap (λ l. then_with c.args.term (side_over c.args.over.now l)) c.pack.ensures.value)))

pub returns : goal.returns
returns c =
    let packs = c.args.packs.now in
    let olds = c.args.all.now.items in
    let z = to_z w128 (of_z w128 c.args.c) in
    over_end packs c.args.x (assigned_at packs c.args.term z c.args.over.now) (assigned_in c.args.x c.args.term z c.args.over.now) c.places-places.result.now c.loop-i.i olds c.loop-i.all.items (assigned_is packs c.args.x c.args.term z c.args.over.now) c.places-places.ensures.value c.requires c.loop-i-test.false c.loop-i.invariant
    ∙ ap (λ y. assigned_octagons packs olds c.args.x c.args.term y c.args.over.now) (to_z-of_z w128 c.args.c c.ranges.c)
