use Rattle.std.proofs.Common.{◌≡◌, ◌∙◌, List, length, fold, take, ap, sym, arith}
use Rattle.std.proofs.lemmas.List.{take_all}
use Rattle.pk_plan.specs.declared.places.Place.{Place}
use Rattle.pk_plan.specs.Order.{places_of}
use Rattle.pk_peak.proofs.Numbering.{Numbered, numbered_then, numbered_all}
use Rattle.pk_peak.proofs.items.numbered.Goals as goal

pub returns : goal.returns
returns c =
    let o = c.args.order.now in
    let start : Numbered = record { of = c.in_ok-of.of.items; item = 0; count = 0; depth = 0 } in
    let places : List Place = c.places-place-items.result.now in
    let all : take c.loop-place.place-index places ≡ places_of o.order = take_all c.loop-place.place-index places c.loop-place-test.false ∙ c.places-place-items.ensures.places in
    let made = ap (fold numbered_then start) (sym all) ∙ c.loop-place.invariant.made in
    let zeros = c.in_ok-of.ensures.len in
    let long : length c.in_ok-of.of.items ≡ o.elements = omega (arith, zeros, c.elements.ensures) in
    numbered_all o.order o.elements c.in_ok-of.of.items c.loop-place.of.items c.loop-place.item c.loop-place.count c.loop-place.depth c.requires.within c.requires.once long made
