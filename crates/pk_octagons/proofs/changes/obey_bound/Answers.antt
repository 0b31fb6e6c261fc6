use Rattle.std.proofs.Common.{◌≡◌, ◌<◌, ◌*◌, ◌∙◌, ap, sym, subst, refl, set, length, slice_index_or, to_z, of_z, Some}
use Rattle.std.specs.Prelude.{◌/◌, None, IfSome}
use Rattle.std.specs.Int.{w128}
use Rattle.std.proofs.lemmas.Int.{to_z-of_z}
use Rattle.pk_octmat.specs.Octagon.{Octagon}
use Rattle.pk_octops.specs.Guards.{guard_of}
use Rattle.pk_octagons.specs.declared.packs.Place.{Place}
use Rattle.pk_octagons.specs.Packs.{side_over}
use Rattle.pk_octagons.specs.Octagons.{octagon_at}
use Rattle.pk_octagons.specs.Changes.{or_else, changed_at, bounded_in, each_changed}
use Rattle.pk_octagons.proofs.Zips.{read_is}
use Rattle.pk_octagons.proofs.Overs.{is_there, over_more, over_end, set_octagon, bounded_at, bounded_is, bounded_vars}
use Rattle.pk_octagons.proofs.changes.obey_bound.Goals as goal

abbrev zero : Place
zero = record { pack = 0; place = 0 }

pub obeys_bound-requires : goal.obeys_bound-requires
obeys_bound-requires c =
    let ms = c.args.all.now in
    let place = slice_index_or c.places-places.result.now c.loop-i.i zero in
    let here = is_there c.args.packs.now ms (c.args.a / 2) place c.requires (c.places-places.ensures.there c.loop-i.i zero c.loop-i-test.true) in
    subst (λ n. IfSome c.side_over-first.result (λ t. t < 2 * n))
    (ap length c.pack.ensures.value ∙ sym here.width ∙ sym (ap (λ (m : Octagon). m.vars) (read_is ms place.pack c.index-all-place.result here.octagon c.index-all-place.is))) c.side_over-first.ensures.there

pub loop-i-preserved : goal.loop-i-preserved
loop-i-preserved c =
    let packs = c.args.packs.now in
    let ms = c.args.all.now in
    let z = to_z w128 (of_z w128 c.args.c) in
    let place = slice_index_or c.places-places.result.now c.loop-i.i zero in
    let here = is_there packs ms (c.args.a / 2) place c.requires (c.places-places.ensures.there c.loop-i.i zero c.loop-i-test.true) in
    let m = octagon_at ms place.pack in
    let own : changed_at c.side_over-first.result m (λ k. or_else m (guard_of m (Some k) None z)) ≡ m =
    subst (λ (n : Octagon). changed_at c.side_over-first.result n (λ k. or_else n (guard_of n (Some k) None z)) ≡ n) (read_is ms place.pack c.index-all-place.result here.octagon c.index-all-place.is) (c.obeys_bound.ensures c.if-not-obeys_bound.false) in
    let same : bounded_at packs c.args.a z c.args.over.now place m ≡ m =
    ap (λ u. changed_at u m (λ k. or_else m (guard_of m (Some k) None z))) (sym (c.side_over-first.ensures.value ∙ ap (λ l. side_over c.args.over.now l c.args.a) c.pack.ensures.value)) ∙ own in
    over_more packs (bounded_at packs c.args.a z c.args.over.now) c.places-places.result.now c.loop-i.i place zero ms ms ms c.loop-i.invariant c.loop-i-test.true refl (bounded_vars packs c.args.a z c.args.over.now place)
    (sym (ap (set ms place.pack) same ∙ set_octagon ms place.pack))

pub returns : goal.returns
returns c = λ yes.
    let packs = c.args.packs.now in
    let ms = c.args.all.now in
    let z = to_z w128 (of_z w128 c.args.c) in
    sym (over_end packs (c.args.a / 2) (bounded_at packs c.args.a z c.args.over.now) (bounded_in c.args.a z c.args.over.now) c.places-places.result.now c.loop-i.i ms ms (bounded_is packs c.args.a z c.args.over.now) c.places-places.ensures.value c.requires
    c.loop-i-test.false c.loop-i.invariant
    ∙ ap (λ y. each_changed (bounded_in c.args.a y c.args.over.now) packs ms) (to_z-of_z w128 c.args.c c.ranges.c))
