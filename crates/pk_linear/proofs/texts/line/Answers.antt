use Rattle.std.proofs.Common.{◌≡◌, ◌-◌, ◌<◌, ◌^◌, ℕ, [], List, drop, arith, sym, ap, subst, ◌∙◌, All}
use Rattle.std.proofs.lemmas.List.{drop_all}
use Rattle.pk_plan.specs.declared.places.Place.{Place}
use Rattle.pk_plan.specs.Order.{places_of}
use Rattle.pk_linear.specs.Texts.{spaced, item_texts}
use Rattle.pk_linear.proofs.TextLemmas.{written, written_level}
use Rattle.pk_linear.proofs.texts.line.Goals as goal

pub returns : goal.returns
returns c =
    let o = c.args.order.now in
    let places : List Place = c.places-place-items.result.now in
    let text : List ℕ = c.loop-place.bytes.items in
    let end = c.saturating_sub-end.result in
    let is : places ≡ places_of o.order = c.places-place-items.ensures.places in
    let few : o.elements < 4294967296 = subst (λ (n : ℕ). n < 4294967296) c.elements.ensures c.elements.type_inv in
    let small : All (λ q. q.element < 2 ^ 64) places = λ k d in_range. (let below = c.places-place-items.ensures.within k d in_range in omega (arith, below, few)) in
    let end_is : end ≡ o.elements - 1 = c.saturating_sub-end.ensures ∙ ap (λ (n : ℕ). n - 1) c.elements.ensures in
    let done : drop c.loop-place.place-index places ≡ [] = drop_all c.loop-place.place-index places c.loop-place-test.false in
    ap (written end text) (sym done)
    ∙ c.loop-place.invariant
    ∙ ap (written end []) is
    ∙ written_level end o.order (subst (All (λ (q : Place). q.element < 2 ^ 64)) is small)
    ∙ ap (λ (n : ℕ). spaced (item_texts n o.order)) end_is
