use Rattle.std.proofs.Common.{◌≡◌, ◌<◌, ◌*◌, ◌∙◌, ap, sym, subst, refl, set, length, slice_index_or, to_z, of_z, Some}
use Rattle.std.specs.Prelude.{◌/◌, IfSome}
use Rattle.std.specs.Int.{w128}
use Rattle.std.proofs.lemmas.Int.{to_z-of_z}
use Rattle.pk_octmat.specs.Octagon.{Octagon}
use Rattle.pk_octops.specs.Guards.{IsGuard, guard_of}
use Rattle.pk_octagons.specs.declared.packs.Place.{Place}
use Rattle.pk_octagons.specs.Packs.{side_of, side_over}
use Rattle.pk_octagons.specs.Octagons.{octagon_at}
use Rattle.pk_octagons.specs.Changes.{or_else, changed_at, related_in, each_changed}
use Rattle.pk_octagons.proofs.Zips.{read_is}
use Rattle.pk_octagons.proofs.Overs.{is_there, over_more, over_end, set_octagon, related_at, related_is, related_vars, terms_there}
use Rattle.pk_octagons.proofs.changes.obey_relation.Goals as goal

abbrev zero : Place
zero = record { pack = 0; place = 0 }

pub side_at-first-requires : goal.side_at-first-requires
side_at-first-requires c = (c.places-places.ensures.there c.loop-i.i zero c.loop-i-test.true).few

pub obeys_relation-requires : goal.obeys_relation-requires
obeys_relation-requires c =
    let packs = c.args.packs.now in
    let ms = c.args.all.now in
    let place = slice_index_or c.places-places.result.now c.loop-i.i zero in
    let here = is_there packs ms (c.args.a / 2) place c.requires.widths (c.places-places.ensures.there c.loop-i.i zero c.loop-i-test.true) in
    subst (λ (m : Octagon). IfSome c.side_over-second.result (λ k. IsGuard m.vars (Some c.side_at-first.result) (Some k))) (sym (read_is ms place.pack c.index-all-place.result here.octagon c.index-all-place.is))
    (terms_there packs ms c.args.a c.args.b c.args.over.now place c.side_at-first.result c.side_over-second.result here c.requires.terms c.side_at-first.ensures (c.side_over-second.ensures.value ∙ ap (λ l. side_over c.args.over.now l c.args.b) c.pack.ensures.value)
    (subst (λ n. IfSome c.side_over-second.result (λ t. t < 2 * n)) (ap length c.pack.ensures.value) c.side_over-second.ensures.there))

pub loop-i-preserved : goal.loop-i-preserved
loop-i-preserved c =
    let packs = c.args.packs.now in
    let ms = c.args.all.now in
    let z = to_z w128 (of_z w128 c.args.c) in
    let place = slice_index_or c.places-places.result.now c.loop-i.i zero in
    let here = is_there packs ms (c.args.a / 2) place c.requires.widths (c.places-places.ensures.there c.loop-i.i zero c.loop-i-test.true) in
    let m = octagon_at ms place.pack in
    let own : changed_at c.side_over-second.result m (λ k. or_else m (guard_of m (Some c.side_at-first.result) (Some k) z)) ≡ m =
    subst (λ (n : Octagon). changed_at c.side_over-second.result n (λ k. or_else n (guard_of n (Some c.side_at-first.result) (Some k) z)) ≡ n) (read_is ms place.pack c.index-all-place.result here.octagon c.index-all-place.is) (c.obeys_relation.ensures c.if-not-obeys_relation.false) in
    let same : related_at packs c.args.a c.args.b z c.args.over.now place m ≡ m =
    ap (λ u. changed_at u m (λ k. or_else m (guard_of m (Some (side_of c.args.a place.place)) (Some k) z))) (sym (c.side_over-second.ensures.value ∙ ap (λ l. side_over c.args.over.now l c.args.b) c.pack.ensures.value))
    ∙ ap (λ s. changed_at c.side_over-second.result m (λ k. or_else m (guard_of m (Some s) (Some k) z))) (sym c.side_at-first.ensures) ∙ own in
    over_more packs (related_at packs c.args.a c.args.b z c.args.over.now) c.places-places.result.now c.loop-i.i place zero ms ms ms c.loop-i.invariant c.loop-i-test.true refl (related_vars packs c.args.a c.args.b z c.args.over.now place)
    (sym (ap (set ms place.pack) same ∙ set_octagon ms place.pack))

pub returns : goal.returns
returns c = λ yes.
    let packs = c.args.packs.now in
    let ms = c.args.all.now in
    let z = to_z w128 (of_z w128 c.args.c) in
    sym (over_end packs (c.args.a / 2) (related_at packs c.args.a c.args.b z c.args.over.now) (related_in c.args.a c.args.b z c.args.over.now) c.places-places.result.now c.loop-i.i ms ms (related_is packs c.args.a c.args.b z c.args.over.now) c.places-places.ensures.value c.requires.widths c.loop-i-test.false c.loop-i.invariant
    ∙ ap (λ y. each_changed (related_in c.args.a c.args.b y c.args.over.now) packs ms) (to_z-of_z w128 c.args.c c.ranges.c))
