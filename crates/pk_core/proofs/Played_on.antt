-- A list of events, played one after another.
use Rattle.std.proofs.Common.{◌≡◌, ℕ, ◌+◌, ◌-◌, ◌^◌, ◌<◌, ◌≤◌, ◌↔◌, ◌∙◌, List, [], ◌∷◌, ◌++◌, length, take, get_or, Some, Bool, true, false, sym, ap, subst, arith, IsTrue}
use Rattle.std.proofs.lemmas.List.{take_more, take_all}
use Rattle.std.proofs.lemmas.Option.{slice_get-get_or}
use Rattle.pk_plan.specs.Plans.{PlanView}
use Rattle.pk_plan.specs.Shape.{shape_of}
use Rattle.pk_iterate.specs.Behaviour.{Behaviour}
use Rattle.pk_core.specs.declared.events.Event.{Event}
use Rattle.pk_core.specs.declared.events.Event.TheVariants.{Offer}
use Rattle.pk_core.specs.States.{State, run_number}
use Rattle.pk_core.specs.Events.{start, Enabled, AllEnabled, after, played}
use Rattle.pk_core.specs.Shown.{CoreView, Shows}
use Rattle.pk_core.specs.Steps.{IsAbout, CanStep, IsStep}
use Rattle.pk_core.specs.Refusals.{IsFirstRefused}
use Rattle.pk_core.proofs.Listed.{played_more, all_more, one_run, has_room}

-- where the events before the place lead
abbrev pub so_far : {C : Type 0} → Behaviour C → PlanView → List Event → ℕ → State C
so_far b p events place = played b (shape_of p) (start (shape_of p)) (take place events)

-- They were enabled, the core shows where they lead, and no element was run more often than there were events.
pub record Played {Y C : Type 0} (m : Y → Behaviour C) (y : Y) (p : PlanView) (events : List Event) (place : ℕ) (c : CoreView Y C) : Type 0 where
  pub about : IsAbout y p c
  pub enabled : AllEnabled (m y) (shape_of p) (start (shape_of p)) (take place events)
  pub shown : Shows (m y) c (so_far (m y) p events place)
  pub few : (u : ℕ) → run_number (so_far (m y) p events place u) ≤ place

abbrev pub Decides : {Y C : Type 0} → (Y → Behaviour C) → CoreView Y C → Event → Bool → Type 0
Decides {Y} {C} m c event r = (s : State C) → Shows (m c.system) c s → IsTrue r ↔ Enabled (m c.system) (shape_of c.plan) s event

abbrev pub event_at : List Event → ℕ → Event
event_at events place = get_or events place (Offer 0)

decided_at : {Y C : Type 0} (m : Y → Behaviour C) (y : Y) (p : PlanView) (events : List Event) (place : ℕ) (c : CoreView Y C) (r : Bool) → Played m y p events place c → Decides m c (event_at events place) r → IsTrue r ↔ Enabled (m y) (shape_of p) (so_far (m y) p events place) (event_at events place)
decided_at {Y} {C} m y p events place c r so decides =
    subst (λ (k : Y). (s : State C) → Shows (m k) c s → IsTrue r ↔ Enabled (m k) (shape_of p) s (event_at events place)) so.about.system
    (subst (λ (q : PlanView). (s : State C) → Shows (m c.system) c s → IsTrue r ↔ Enabled (m c.system) (shape_of q) s (event_at events place)) so.about.plan decides) (so_far (m y) p events place) so.shown

pub can_step : {Y C : Type 0} (m : Y → Behaviour C) (y : Y) (p : PlanView) (events : List Event) (place : ℕ) (c : CoreView Y C) (r : Bool) → Played m y p events place c → Decides m c (event_at events place) r → r ≡ true → place < 2 ^ 64 - 1 → CanStep (m c.system) c (event_at events place)
can_step {Y} {C} m y p events place c r so decides so_it_is few =
    subst (λ (k : Y). CanStep (m k) c (event_at events place)) (sym so.about.system) (record {
      state = so_far (m y) p events place;
      shown = so.shown;
      enabled = subst (λ (q : PlanView). Enabled (m y) (shape_of q) (so_far (m y) p events place) (event_at events place)) (sym so.about.plan) ((decided_at m y p events place c r so decides).0 so_it_is);
      room = has_room (so_far (m y) p events place) (event_at events place) place few so.few;
    })

pub played_next : {Y C : Type 0} (m : Y → Behaviour C) (y : Y) (p : PlanView) (events : List Event) (place : ℕ) (c d : CoreView Y C) (r : Bool) → Played m y p events place c → place < length events → Decides m c (event_at events place) r → r ≡ true → IsStep (m c.system) c (event_at events place) d → Played m y p events (place + 1) d
played_next {Y} {C} m y p events place c d r so in_range decides so_it_is step =
    let b = m y in
    let event = event_at events place in
    let before = take place events in
    let next : take (place + 1) events ≡ before ++ event ∷ [] = take_more events place (Offer 0) in_range in
    let can = (decided_at m y p events place c r so decides).0 so_it_is in
    let leads : so_far b p events (place + 1) ≡ after b (shape_of p) (so_far b p events place) event = ap (played b (shape_of p) (start (shape_of p))) next ∙ played_more b (shape_of p) (start (shape_of p)) before event in
    let shows : (s : State C) → Shows b c s → Shows b d (after b (shape_of p) s event) =
    subst (λ (k : Y). (s : State C) → Shows (m k) c s → Shows (m k) d (after (m k) (shape_of p) s event)) so.about.system
    (subst (λ (q : PlanView). (s : State C) → Shows (m c.system) c s → Shows (m c.system) d (after (m c.system) (shape_of q) s event)) so.about.plan step.shown) in
    record {
      about = record { system = step.about.system ∙ so.about.system; plan = step.about.plan ∙ so.about.plan };
      enabled = subst (AllEnabled b (shape_of p) (start (shape_of p))) (sym next) (all_more b (shape_of p) (start (shape_of p)) before event so.enabled can);
      shown = subst (λ (s : State C). Shows b d s) (sym leads) (shows (so_far b p events place) so.shown);
      few = λ u. let more = one_run b (shape_of p) (so_far b p events place) event u in subst (λ (s : State C). run_number (s u) ≤ place + 1) (sym leads) (omega (arith, more, so.few u));
    }

pub refused_here : {Y C : Type 0} (m : Y → Behaviour C) (y : Y) (p : PlanView) (events : List Event) (place : ℕ) (c : CoreView Y C) (r : Bool) → Played m y p events place c → place < length events → Decides m c (event_at events place) r → r ≡ false → IsFirstRefused (m y) (shape_of p) events place
refused_here {Y} {C} m y p events place c r so in_range decides none = record {
  within = in_range;
  before = so.enabled;
  refused = λ event is can.
      let both : Some (event_at events place) ≡ Some event = sym (slice_get-get_or events place (Offer 0) in_range) ∙ is in
      let same : event ≡ event_at events place = cc in
      let so_it_is = (decided_at m y p events place c r so decides).1 (subst (λ (e : Event). Enabled (m y) (shape_of p) (so_far (m y) p events place) e) same can) in
      absurd (cc);
}

pub all_played : {Y C : Type 0} (m : Y → Behaviour C) (y : Y) (p : PlanView) (events : List Event) (place : ℕ) (c : CoreView Y C) → Played m y p events place c → length events ≤ place → AllEnabled (m y) (shape_of p) (start (shape_of p)) events × Shows (m y) c (played (m y) (shape_of p) (start (shape_of p)) events)
all_played m y p events place c so past =
    let all = take_all place events past in (
      subst (AllEnabled (m y) (shape_of p) (start (shape_of p))) all so.enabled,
      subst (λ (evs : List Event). Shows (m y) c (played (m y) (shape_of p) (start (shape_of p)) evs)) all so.shown,
    )

pub none_played : {Y C : Type 0} (m : Y → Behaviour C) (y : Y) (p : PlanView) (events : List Event) (c : CoreView Y C) → IsAbout y p c → Shows (m y) c (start (shape_of p)) → Played m y p events 0 c
none_played m y p events c about shown = record { about = about; enabled = tt; shown = shown; few = λ u. omega arith }
