-- Why a list of events isn't played.
use Rattle.std.specs.Prelude.{◌≡◌, ℕ, ◌<◌, List, length, take, slice_get, Some}
use Rattle.pk_plan.specs.Shape.{Shape}
use Rattle.pk_iterate.specs.Behaviour.{Behaviour}
use Rattle.pk_core.specs.declared.events.Event.{Event}
use Rattle.pk_core.specs.declared.playing.PlayError.{PlayError}
use Rattle.pk_core.specs.declared.playing.PlayError.TheVariants.{NotEnabled, Memory}
use Rattle.pk_core.specs.Events.{start, Enabled, AllEnabled, played}

-- the events up to the place are enabled where they come, and the one at the place isn't
pub record IsFirstRefused {C : Type 0} (b : Behaviour C) (p : Shape) (events : List Event) (place : ℕ) : Type 0 where
  pub within : place < length events
  pub before : AllEnabled b p (start p) (take place events)
  pub refused : (event : Event) → slice_get events place ≡ Some event
      → Enabled b p (played b p (start p) (take place events)) event → ⊥

abbrev pub IsRefusal : {C : Type 0} → Behaviour C → Shape → List Event → PlayError → Type 0
IsRefusal b p events (NotEnabled place) = IsFirstRefused b p events place
IsRefusal b p events Memory = Unit {0}
