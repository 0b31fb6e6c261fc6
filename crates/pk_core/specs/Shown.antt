-- What a core shows: how each element stands.
use Rattle.std.specs.Prelude.{◌≡◌, ℕ, List, length, slice_get, Some}
use Rattle.pk_plan.specs.Plans.{PlanView}
use Rattle.pk_iterate.specs.Behaviour.{Behaviour}
use Rattle.pk_core.specs.declared.events.Status.{Status}
use Rattle.pk_core.specs.States.{Element, State, newest, run_number}

-- an element by its status, its run number, its cell and its sends left
pub record Standing (C : Type 0) : Type 0 where
  pub status : Status
  pub run : ℕ
  pub cell : C
  pub sends : List ℕ

-- the elements of a plan, over a system
pub record CoreView (Y C : Type 0) : Type 0 where
  pub system : Y
  pub plan : PlanView
  pub elements : List (Standing C)

-- the element e stands as in a state
pub record StandsAs {C : Type 0} (b : Behaviour C) (e : ℕ) (x : Standing C) (y : Element C) : Type 0 where
  pub status : x.status ≡ y.status
  pub run : x.run ≡ run_number y
  pub cell : x.cell ≡ newest (b.first e) y.made
  pub sends : x.sends ≡ y.sends

-- the elements, so many, stand as in a state
pub record StandAs {C : Type 0} (b : Behaviour C) (elements : ℕ) (xs : List (Standing C)) (s : State C) : Type 0 where
  pub long : length xs ≡ elements
  pub each : (e : ℕ) (x : Standing C) → slice_get xs e ≡ Some x → StandsAs b e x (s e)

-- the core shows the state
abbrev pub Shows : {Y C : Type 0} → Behaviour C → CoreView Y C → State C → Type 0
Shows b c s = StandAs b c.plan.elements c.elements s
