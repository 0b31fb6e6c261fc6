-- Who may empty slots: while an outermost element is held, no other one is held that reads or writes them, or could be about to.
use Rattle.std.specs.Prelude.{◌≡◌, ◌≢◌, ℕ, ◌⊎◌, List, true, false}
use Rattle.pk_plan.specs.Plans.{PlanView}
use Rattle.pk_plan.specs.Axioms.{Axioms}
use Rattle.pk_plan.specs.Shape.{Shape, Before, shape_of}
use Rattle.pk_iterate.specs.Behaviour.{Behaviour}
use Rattle.pk_core.specs.declared.events.Event.{Event}
use Rattle.pk_core.specs.declared.events.Status.TheVariants.{Held}
use Rattle.pk_core.specs.States.{State}
use Rattle.pk_core.specs.Events.{start, AllEnabled, played}
use Rattle.pk_items.specs.Over.{IsUnder}

-- a cell that e reads is x's, or one of its component, or one of an element that comes before
abbrev pub IsNear : Shape → (x e u : ℕ) → Type 0
IsNear p x e u = (u ≡ x) ⊎ ((p.inside x u ≡ true) ⊎ Before p u e)

-- h is neither the slot's reader e nor its owner u, and is no exit of a component that holds one of them
pub record LeavesAlone (p : Shape) (h e u : ℕ) : Type 0 where
  pub reader : h ≢ e
  pub owner : h ≢ u
  pub no_reader_inside : p.inside h e ≡ false
  pub no_owner_inside : p.inside h u ≡ false

abbrev pub OthersLeaveAlone : {C : Type 0} → Shape → State C → Type 0
OthersLeaveAlone p s =
    (x e u h : ℕ) → (s x).status ≡ Held → IsUnder p x e → IsNear p x e u → (s h).status ≡ Held → h ≢ x
    → LeavesAlone p h e u

-- after every list of enabled events
abbrev pub OthersAlwaysLeaveAlone : {C : Type 0} → Behaviour C → Type 0
OthersAlwaysLeaveAlone b =
    (p : PlanView) (events : List Event) → Axioms p → AllEnabled b (shape_of p) (start (shape_of p)) events
    → OthersLeaveAlone (shape_of p) (played b (shape_of p) (start (shape_of p)) events)
