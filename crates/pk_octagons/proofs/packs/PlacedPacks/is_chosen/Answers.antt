use Rattle.std.proofs.Common.{rules, ◌≡◌, ◌<◌, ◌≤◌, ◌⊎◌, ◌^◌, ◌∙◌, ℕ, [], length, List, arith, ap, sym, subst, inl, inr}
use Rattle.std.specs.Prelude.{◌↔◌, ◌==◌, true, false, not}
use Rattle.std.proofs.lemmas.Bool.{cases_lt}
use Rattle.pk_octagons.specs.declared.packs.Place.{Place}
use Rattle.pk_octagons.specs.Packs.{places_of}
use Rattle.pk_octagons.specs.Members.{IsChosen}
use Rattle.pk_octagons.proofs.Placing.{places_none}
use Rattle.pk_octagons.proofs.Chosen.{places_chosen, chosen_test}
use Rattle.pk_octagons.proofs.packs.PlacedPacks.is_chosen.Goals as goal

pub returns-clause-value : goal.returns-clause-value
returns-clause-value c = ap not (c.is_empty.ensures ∙ ap (λ ls. length ls == 0) c.places.ensures.value) ∙ places_chosen 0 c.args.self.now c.args.x

pub returns-clause-there : goal.returns-clause-there
returns-clause-there c =
    let own = ap not (c.is_empty.ensures ∙ ap (λ ls. length ls == 0) c.places.ensures.value) ∙ places_chosen 0 c.args.self.now c.args.x in
    subst (λ b. (b ≡ true) ↔ IsChosen c.args.self.now c.args.x) (sym own) (chosen_test c.args.self.now c.args.x)

pub returns-clause-few : goal.returns-clause-few
returns-clause-few c = λ e. by e (cases_lt c.args.x (length c.self.inside.places.items))
  where
    bound : length c.self.inside.places.items < 2 ^ 63
    bound = search rules

    by : not c.is_empty.result ≡ true → (c.args.x < length c.self.inside.places.items) ⊎ (length c.self.inside.places.items ≤ c.args.x) → c.args.x < 2 ^ 63
    by e (inl l) = omega (arith, l, bound)
    by e (inr g) =
        let none : c.places.result.now ≡ [] = c.places.ensures.value ∙ ap (λ (ps : List (List ℕ)). places_of ps c.args.x) (sym c.self.view_is) ∙ places_none 0 c.self.inside.packs.items (length c.self.inside.places.items) c.args.x c.self.invariant.0 g in
        let no : not c.is_empty.result ≡ false = ap not (c.is_empty.ensures ∙ ap (λ (ls : List Place). length ls == 0) none) in
        absurd (cc)
