-- What a core is about, and what a step of it is.
use Rattle.std.specs.Prelude.{◌≡◌, ◌-◌, ◌^◌, ◌<◌}
use Rattle.pk_plan.specs.Plans.{PlanView}
use Rattle.pk_plan.specs.Shape.{shape_of}
use Rattle.pk_iterate.specs.Behaviour.{Behaviour}
use Rattle.pk_core.specs.declared.events.Event.{Event}
use Rattle.pk_core.specs.declared.events.Event.TheVariants.{Offer, Claim, Finish, Send, Stable, Again}
use Rattle.pk_core.specs.States.{State, run_number}
use Rattle.pk_core.specs.Events.{Enabled, after}
use Rattle.pk_core.specs.Shown.{CoreView, Shows}

-- the core is one of this plan, over this system
pub record IsAbout {Y C : Type 0} (y : Y) (p : PlanView) (c : CoreView Y C) : Type 0 where
  pub system : c.system ≡ y
  pub plan : c.plan ≡ p

-- the element that an event runs, if it runs one, has a run number that fits 64 bits once it is one more
abbrev pub HasRoom : {C : Type 0} → State C → Event → Type 0
HasRoom s (Offer e) = Unit {0}
HasRoom s (Claim e) = Unit {0}
HasRoom s (Finish e) = run_number (s e) < 2 ^ 64 - 1
HasRoom s (Send u v) = Unit {0}
HasRoom s (Stable x) = run_number (s x) < 2 ^ 64 - 1
HasRoom s (Again x) = run_number (s x) < 2 ^ 64 - 1

-- the core shows a state in which the event is enabled and has room
pub record CanStep {Y C : Type 0} (b : Behaviour C) (c : CoreView Y C) (event : Event) : Type 0 where
  pub state : State C
  pub shown : Shows b c state
  pub enabled : Enabled b (shape_of c.plan) state event
  pub room : HasRoom state event

-- whatever state the old core shows, the new one shows the state after the event
pub record IsStep {Y C : Type 0} (b : Behaviour C) (old : CoreView Y C) (event : Event)
    (new : CoreView Y C) : Type 0 where
  pub about : IsAbout old.system old.plan new
  pub shown : (s : State C) → Shows b old s → Shows b new (after b (shape_of old.plan) s event)
