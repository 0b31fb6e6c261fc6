use Rattle.std.proofs.Common.{◌≡◌, ◌∙◌, ℕ, List, length, get_or, ap, arith}
use Rattle.std.proofs.lemmas.Grind.{get_or_default_zero}
use Rattle.pk_board.specs.Earliest.{earliest_of}
use Rattle.pk_board.proofs.Amounts.{inner_is_full}
use Rattle.pk_board.proofs.earliest.Earliest.inner.Goals as goal

pub returns-then-component-index : goal.returns-then-component-index
returns-then-component-index c =
    let p = c.args.plan.now in
    let e = c.args.e in
    let places = c.self.inside.places.items in
    let long : length places ≡ p.elements = ap (λ (xs : List ℕ). length xs) c.self.view_is ∙ c.requires.earliest.long in
    let found : c.index.result.now ≡ earliest_of p e = c.index.ensures ∙ get_or_default_zero places e c.index.result.now (omega (arith, long, c.requires.element)) ∙ ap (λ (xs : List ℕ). get_or xs e 0) c.self.view_is ∙ c.requires.earliest.each e c.requires.element in
    c.full.ensures ∙ inner_is_full p c.args.component.now e c.axioms.ensures.axioms c.requires.component c.requires.within (omega (arith, found, c.if-component-index.true))
