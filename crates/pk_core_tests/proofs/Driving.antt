-- A core that is driven shows a state, in which no element was run more often than there were steps.
use Rattle.std.specs.Arc.{arc_value}
use Rattle.std.specs.declared.sync.Arc.{Arc}
use Rattle.std.specs.declared.alloc.Global.{Global}
use Rattle.std.proofs.lemmas.List.{drop_more, get_or-map, length-map}
use Rattle.std.proofs.Common.{◌≡◌, ℕ, List, ◌∷◌, map, drop, get_or, length, ap, ◌+◌, ◌-◌, ◌^◌, ◌<◌, ◌≤◌, ◌↔◌, ◌∙◌, Bool, true, sym, subst, arith, IsTrue}
use Rattle.pk_plan.specs.Plans.{PlanView}
use Rattle.pk_plan.specs.Shape.{shape_of}
use Rattle.pk_iterate.specs.Behaviour.{Behaviour}
use Rattle.pk_core.specs.declared.events.Event.{Event}
use Rattle.pk_core.specs.States.{State, run_number}
use Rattle.pk_core.specs.Events.{start, Enabled, after}
use Rattle.pk_core.specs.Shown.{CoreView, Shows}
use Rattle.pk_core.specs.Steps.{IsAbout, CanStep, IsStep}
use Rattle.pk_core_tests.specs.Mixing.{mixed_more, mixed_from}
use Rattle.pk_core.proofs.Listed.{one_run, has_room}

pub record Driven {Y C : Type 0} (m : Y → Behaviour C) (y : Y) (p : PlanView) (n : ℕ) (c : CoreView Y C) : Type 0 where
  pub about : IsAbout y p c
  pub state : State C
  pub shown : Shows (m c.system) c state
  pub few : (u : ℕ) → run_number (state u) ≤ n

pub driven_start : {Y C : Type 0} (m : Y → Behaviour C) (y : Y) (p : PlanView) (c : CoreView Y C) → IsAbout y p c → Shows (m y) c (start (shape_of p)) → Driven m y p 0 c
driven_start {Y} {C} m y p c about shown = record {
  about = about;
  state = start (shape_of p);
  shown = subst (λ (k : Y). Shows (m k) c (start (shape_of p))) (sym about.system) shown;
  few = λ u. omega arith;
}

pub can_step : {Y C : Type 0} (m : Y → Behaviour C) (y : Y) (p : PlanView) (n : ℕ) (c : CoreView Y C) (event : Event) (r : Bool) → Driven m y p n c → ((s : State C) → Shows (m c.system) c s → IsTrue r ↔ Enabled (m c.system) (shape_of c.plan) s event) → r ≡ true → n < 2 ^ 64 - 1 → CanStep (m c.system) c event
can_step m y p n c event r d decides is few = record {
  state = d.state;
  shown = d.shown;
  enabled = (decides d.state d.shown).0 is;
  room = has_room d.state event n few d.few;
}

pub driven_next : {Y C : Type 0} (m : Y → Behaviour C) (y : Y) (p : PlanView) (n : ℕ) (c d : CoreView Y C) (event : Event) → Driven m y p n c → IsStep (m c.system) c event d → Driven m y p (n + 1) d
driven_next {Y} {C} m y p n c d event so step = record {
  about = record { system = step.about.system ∙ so.about.system; plan = step.about.plan ∙ so.about.plan };
  state = after (m c.system) (shape_of c.plan) so.state event;
  shown = subst (λ (k : Y). Shows (m k) d (after (m c.system) (shape_of c.plan) so.state event)) (sym step.about.system) (step.shown so.state so.shown);
  few = λ u. omega (arith, one_run (m c.system) (shape_of c.plan) so.state event u, so.few u);
}

-- one cell more is mixed
pub mixed_step : (cells : List (Arc ℕ Global)) (i first so_far next : ℕ) (cell : Arc ℕ Global) → i < length cells → cell ≡ get_or cells i cell → next ≡ mixed_more so_far (arc_value cell) → mixed_from first (map arc_value cells) ≡ mixed_from so_far (drop i (map arc_value cells)) → mixed_from first (map arc_value cells) ≡ mixed_from next (drop (i + 1) (map arc_value cells))
mixed_step cells i first so_far next cell in_range is more so =
    let left : drop i (map arc_value cells) ≡ arc_value cell ∷ drop (i + 1) (map arc_value cells) =
    drop_more (map arc_value cells) i (arc_value cell) (omega (arith, in_range, length-map cells arc_value))
    ∙ ap (λ (k : ℕ). k ∷ drop (i + 1) (map arc_value cells)) (get_or-map arc_value cells i cell (arc_value cell) in_range ∙ ap arc_value (sym is)) in
    so ∙ ap (mixed_from so_far) left ∙ ap (λ (k : ℕ). mixed_from k (drop (i + 1) (map arc_value cells))) (sym more)
