use Rattle.std.proofs.Common.{◌≡◌, ◌<◌, ◌*◌, ◌+◌, ◌∙◌, ap, sym, subst, arith, drop, length, slice_index_or}
use Rattle.std.specs.Prelude.{◌/◌, None, IfSome}
use Rattle.std.proofs.Math.ListN.{drop_of_length-le}
use Rattle.std.proofs.lemmas.List.{length-map, drop_more}
use Rattle.pk_octmat.specs.Bounds.{lesser}
use Rattle.pk_octmat.specs.Octagon.{Octagon, entry}
use Rattle.pk_octagons.specs.declared.packs.Place.{Place}
use Rattle.pk_octagons.specs.Packs.{side_of, side_in}
use Rattle.pk_octagons.specs.Octagons.{octagon_at}
use Rattle.pk_octagons.specs.Changes.{then_with}
use Rattle.pk_octagons.proofs.Zips.{read_is}
use Rattle.pk_octagons.proofs.Overs.{is_there}
use Rattle.pk_octagons.proofs.Least.{least_with, told_at, least_all}
use Rattle.pk_octagons.proofs.changes.least_of.Goals as goal

abbrev zero : Place
zero = record { pack = 0; place = 0 }

pub side_at-first-requires : goal.side_at-first-requires
side_at-first-requires c = (c.places-places.ensures.there c.loop-n.n zero c.loop-n-test.true).few

pub bound_of-told-requires-clause-row : goal.bound_of-told-requires-clause-row
bound_of-told-requires-clause-row c =
    let ms = c.args.all.now in
    let place = slice_index_or c.places-places.result.now c.loop-n.n zero in
    let here = is_there c.args.packs.now ms (c.args.i / 2) place c.requires (c.places-places.ensures.there c.loop-n.n zero c.loop-n-test.true) in
    omega (arith, here.place, here.width, c.side_at-first.ensures, ap (λ (m : Octagon). m.vars) (read_is ms place.pack c.index-all-place.result here.octagon c.index-all-place.is))

pub bound_of-told-requires-clause-column : goal.bound_of-told-requires-clause-column
bound_of-told-requires-clause-column c =
    let ms = c.args.all.now in
    let place = slice_index_or c.places-places.result.now c.loop-n.n zero in
    let here = is_there c.args.packs.now ms (c.args.i / 2) place c.requires (c.places-places.ensures.there c.loop-n.n zero c.loop-n-test.true) in
    subst (λ n. IfSome c.side-second.result (λ t. t < 2 * n)) (ap length c.pack.ensures.value ∙ sym here.width ∙ sym (ap (λ (m : Octagon). m.vars) (read_is ms place.pack c.index-all-place.result here.octagon c.index-all-place.is))) c.side-second.ensures.there

pub loop-n-preserved : goal.loop-n-preserved
loop-n-preserved c =
    let packs = c.args.packs.now in
    let ms = c.args.all.now in
    let places = c.places-places.result.now in
    let n = c.loop-n.n in
    let place = slice_index_or places n zero in
    let here = is_there packs ms (c.args.i / 2) place c.requires (c.places-places.ensures.there n zero c.loop-n-test.true) in
    let h = told_at packs ms c.args.i c.args.j in
    let told : c.bound_of-told.result ≡ h place =
    c.bound_of-told.ensures ∙ ap (λ (m : Octagon). then_with c.side-second.result (entry m c.side_at-first.result)) (read_is ms place.pack c.index-all-place.result here.octagon c.index-all-place.is)
    ∙ ap (λ s. then_with c.side-second.result (entry (octagon_at ms place.pack) s)) c.side_at-first.ensures
    ∙ ap (λ u. then_with u (entry (octagon_at ms place.pack) (side_of c.args.i place.place))) (c.side-second.ensures.value ∙ ap (λ l. side_in l c.args.j) c.pack.ensures.value) in
    ap (λ o. least_with h o (drop (n + 1) places)) (c.lesser-least.ensures ∙ ap (lesser c.loop-n.least) told)
    ∙ sym (ap (least_with h c.loop-n.least) (drop_more places n zero c.loop-n-test.true)) ∙ c.loop-n.invariant

pub returns : goal.returns
returns c =
    let packs = c.args.packs.now in
    let ms = c.args.all.now in
    let h = told_at packs ms c.args.i c.args.j in
    let size : length ms ≡ length packs = sym (length-map ms (λ (m : Octagon). m.vars)) ∙ ap length c.requires ∙ length-map packs length in
    sym (ap (least_with h c.loop-n.least) (drop_of_length-le c.places-places.result.now c.loop-n-test.false)) ∙ c.loop-n.invariant ∙ ap (least_with h None) c.places-places.ensures.value
    ∙ least_all packs ms c.args.i c.args.j size
