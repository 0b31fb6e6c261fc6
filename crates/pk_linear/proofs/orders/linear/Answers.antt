use Rattle.std.proofs.Common.{◌≡◌, inl, inr, ◌<◌, ◌≤◌, ◌+◌, ℕ, [], ◌∷◌, List, true, false, length, get_or, arith, refl, sym, ap, subst, ◌∙◌, Contains}
use Rattle.std.specs.Ordering.{nat_cmp}
use Rattle.std.specs.declared.cmp.Ordering.TheVariants.{Less}
use Rattle.std.proofs.lemmas.Bool.{cases_eq}
use Rattle.std.proofs.lemmas.Bool.Decides.{nat_tests}
use Rattle.std.proofs.lemmas.List.Elements.{Contains-get_or}
use Rattle.pk_plan.specs.declared.places.Place.{Place}
use Rattle.pk_plan.specs.Plans.{PlanView}
use Rattle.pk_plan.specs.Axioms.{Axioms}
use Rattle.pk_plan.proofs.Levels.{IsBracketed-from_level, level_of-from_level}
use Rattle.pk_plan.specs.Linear.{IsLinear, GoesForward}
use Rattle.pk_linear.specs.Steps.{elements_at, Stands}
use Rattle.pk_linear.specs.Progress.{IsKnown}
use Rattle.pk_linear.specs.declared.progress.Progress.{Progress}
use Rattle.pk_linear.proofs.ListLemmas.{contains_none, contains_here, split_at}
use Rattle.pk_linear.proofs.StepLemmas.{stands_right}
use Rattle.pk_linear.proofs.SpellLemmas.{SpellsOrder, steps_spell}
use Rattle.pk_linear.proofs.KnownLemmas.{IsAwaited, known_looked, known_less, known_apart, all_placed, places_within, steps_within}
use Rattle.pk_linear.proofs.orders.linear.Goals as goal

-- where nothing is placed, each element is awaited
nothing_placed : (p : PlanView) (places : List Place) (e : ℕ) → places ≡ [] → e < p.elements → IsAwaited p places e
nothing_placed p places e none within = record {
  within = within;
  fresh = λ has. contains_none (subst (λ (ps : List Place). Stands ps e) none has);
  inside = λ c is_open. absurd (contains_none (subst (λ (ps : List Place). Stands ps c.head) none is_open.head));
}

-- the places at the end
at_the_end : (p : PlanView) (s : Progress) → Axioms p → s.ready.keys ≡ [] → IsKnown p s s.ready.keys (λ e. ⊥) → SpellsOrder p s.places.items
at_the_end p s axioms none known =
    steps_spell p s.lasts.items s.places.items axioms known.lasts known.steps (all_placed p s axioms (subst (λ (keys : List ℕ). IsKnown p s keys (λ e. ⊥)) none known))

contains_map : (places : List Place) (place : Place) → Contains places place → Stands places place.element
contains_map places place has =
    let parts = split_at places place has in
    subst (λ (ps : List Place). Stands ps place.element) (sym parts.is) (stands_right parts.before (place ∷ parts.after) place.element (contains_here place.element (elements_at parts.after)))

lower : (a b : ℕ) → nat_cmp a b ≡ Less → a < b
lower a b h = grind (arith, nat_tests)

none_ready : (keys : List ℕ) → (0 < length keys → false ≡ true) → keys ≡ []
none_ready [] h = refl
none_ready (k ∷ keys) h = absurd (let both : false ≡ true = h (omega arith) in cc)

pub loop-item-init : goal.loop-item-init
loop-item-init c = (known_less c.args.plan.now c.in_ok-progress.progress c.in_ok-progress.progress.ready.keys (λ e. e < c.args.plan.now.elements) (λ e. 0 ≤ e) (λ e within it. omega arith) c.in_ok-progress.ensures.known, c.in_ok-progress.ensures.places)

pub look_at-requires : goal.look_at-requires
look_at-requires c =
    let known = c.loop-item.invariant.0 in
    let within : c.loop-item.item < c.args.plan.now.elements = (let elements = c.elements-item-end.ensures in omega (arith, elements, c.loop-item-test.true)) in
    record {
      lasts = known.lasts;
      marks = known.marks;
      readings = known.readings;
      waiting = known.waiting;
      item = within;
      read = known.read c.loop-item.item within;
    }

pub loop-item-preserved : goal.loop-item-preserved
loop-item-preserved c =
    let p = c.args.plan.now in
    let s = c.loop-item.progress in
    let item = c.loop-item.item in
    let within : item < p.elements = (let elements = c.elements-item-end.ensures in omega (arith, elements, c.loop-item-test.true)) in (
      known_looked p s c.look_at.new.self item (λ e. item ≤ e) (λ e. item + 1 ≤ e) c.loop-item.invariant.0 (nothing_placed p s.places.items item c.loop-item.invariant.1 within) c.in_ok-look_at.ensures
          (λ e from. elim (cases_eq e item) [ inl same ↦ inl same | inr other ↦ inr (omega (arith, from, other)) ]),
      ap (λ (x : Progress). x.places.items) c.in_ok-look_at.ensures.same ∙ c.loop-item.invariant.1,
    )

pub loop-element-init : goal.loop-element-init
loop-element-init c =
    known_less c.args.plan.now c.loop-item.progress c.loop-item.progress.ready.keys (λ e. c.loop-item.item ≤ e) (λ e. ⊥)
    (λ e within from. absurd (let elements = c.elements-item-end.ensures in omega (arith, within, from, elements, c.loop-item-test.false))) c.loop-item.invariant.0

pub place-requires : goal.place-requires
place-requires c = record {
  known = known_apart c.args.plan.now c.loop-element.progress (c.in-Some.element ∷ c.pop_first.new.self.keys) (λ e. ⊥) c.pop_first.new.self
      (subst (λ (keys : List ℕ). IsKnown c.args.plan.now c.loop-element.progress keys (λ e. ⊥)) c.in-Some.ensures.removal c.loop-element.invariant);
  least = λ k d in_range. lower c.in-Some.element (get_or c.pop_first.new.self.keys k d) (c.in-Some.ensures.all_above k d in_range);
}

pub loop-element-preserved : goal.loop-element-preserved
loop-element-preserved c = c.in_ok-place.ensures.known

pub loop-element-smaller : goal.loop-element-smaller
loop-element-smaller c =
    let p = c.args.plan.now in
    let few : length c.place.new.self.places.items ≤ p.elements = places_within p c.place.new.self.lasts.items c.place.new.self.places.items c.in_ok-place.ensures.known.steps in
    let more = c.in_ok-place.ensures.places in
    omega (arith, few, more)

pub new-requires : goal.new-requires
new-requires c =
    let p = c.args.plan.now in
    let s = c.loop-element.progress in
    let none : s.ready.keys ≡ [] = none_ready s.ready.keys c.in_default.ensures.variant.1 in
    let it = at_the_end p s c.axioms.ensures.axioms none c.loop-element.invariant in
    record {
      bracketed = IsBracketed-from_level it.level it.spells;
      within = λ k d in_range.
          let place : Place = get_or s.places.items k d in
          let has : Stands s.places.items place.element = contains_map s.places.items place (Contains-get_or s.places.items k d in_range) in
          let below = steps_within p s.lasts.items s.places.items place.element c.loop-element.invariant.steps has in
          omega (arith, below, c.elements.ensures);
    }

pub returns : goal.returns
returns c =
    let p = c.args.plan.now in
    let s = c.loop-element.progress in
    let none : s.ready.keys ≡ [] = none_ready s.ready.keys c.in_default.ensures.variant.1 in
    let it = at_the_end p s c.axioms.ensures.axioms none c.loop-element.invariant in
    let is : it.level ≡ c.new.result.order = sym (c.new.ensures.order ∙ level_of-from_level it.level it.spells) in
    record {
      elements = c.new.ensures.elements ∙ c.elements.ensures;
      linear = subst (IsLinear p) is it.linear;
      forward = subst (GoesForward p) is it.forward;
    }
