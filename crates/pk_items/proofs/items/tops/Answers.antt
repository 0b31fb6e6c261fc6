use Rattle.std.proofs.Common.{◌≡◌, ◌<◌, ℕ, List, length, get_or, max, ap, ◌∙◌, arith}
use Rattle.std.proofs.lemmas.Grind.{get_or_default_zero}
use Rattle.pk_items.proofs.Walking.{until_at, until_low, walk_on}
use Rattle.pk_items.proofs.items.tops.Goals as goal

pub bounds-listing-max : goal.bounds-listing-max
bounds-listing-max c =
    let p = c.args.plan.now in
    let place = c.loop-place.place in
    let low : place < p.elements = (let e = c.elements-place-end.ensures in omega (arith, c.loop-place-test.true, e)) in
    let read = c.index.ensures ∙ get_or_default_zero c.in_ok-ends.ends.items place c.index.result.now (let l = c.in_ok-ends.ensures.long in omega (arith, low, l)) in
    let until = until_at p place c.loop-place.until c.max-until.result c.in_ok-ends.ends.items c.loop-place.tops.items c.in_ok-ends.ensures c.loop-place.invariant low (c.max-until.ensures ∙ ap (λ (n : ℕ). max c.loop-place.until n) read) in
    let last = until_low p c.axioms.ensures.axioms place c.max-until.result low until in
    let long = ap (λ (xs : List ℕ). length xs) c.listing-listing.ensures in
    let listed = c.axioms.ensures.axioms.listed in
    omega (arith, c.max.ensures, last, long, listed)

pub loop-place-preserved : goal.loop-place-preserved
loop-place-preserved c =
    let p = c.args.plan.now in
    let place = c.loop-place.place in
    let low : place < p.elements = (let e = c.elements-place-end.ensures in omega (arith, c.loop-place-test.true, e)) in
    let read = c.index.ensures ∙ get_or_default_zero c.in_ok-ends.ends.items place c.index.result.now (let l = c.in_ok-ends.ensures.long in omega (arith, low, l)) in
    let until = until_at p place c.loop-place.until c.max-until.result c.in_ok-ends.ends.items c.loop-place.tops.items c.in_ok-ends.ensures c.loop-place.invariant low (c.max-until.ensures ∙ ap (λ (n : ℕ). max c.loop-place.until n) read) in
    let listing = c.listing-listing.result.now in
    let listed : (at : ℕ) → get_or listing at 0 ≡ get_or p.listing at 0 = λ at. ap (λ (xs : List ℕ). get_or xs at 0) c.listing-listing.ensures in
    walk_on p c.axioms.ensures.axioms place c.loop-place.until c.max-until.result (get_or listing place 0) (get_or listing c.max.result 0) c.loop-place.tops.items low (listed place)
    (listed c.max.result ∙ ap (λ (n : ℕ). get_or p.listing n 0) c.max.ensures) until c.loop-place.invariant
