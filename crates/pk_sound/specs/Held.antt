-- No run leaves the result.
use Rattle.std.specs.Prelude.{◌≡◌, ℕ, ◌<◌, length, Option, Some, None}
use Rattle.pk_graph.specs.Graphs.{GraphOf, kinds_of}
use Rattle.pk_graph.specs.Steps.{number_at}
use Rattle.pk_graph.specs.Stores.{Stored, numbers_of, number_of, IsStore}
use Rattle.pk_value.specs.Known.{IsOf}
use Rattle.pk_octagons.specs.Values.{known_at}
use Rattle.pk_octagons.specs.Members.{IsChosen, MeetAll}
use Rattle.pk_state.specs.Layouts.{Layout, slot_of}
use Rattle.pk_state.specs.Facts.{Facts, Stated}
use Rattle.pk_state.specs.Members.{Member}
use Rattle.pk_transfer.specs.Slots.{spread}
use Rattle.pk_plan.specs.Order.{Level}
use Rattle.pk_plan.specs.Plans.{PlanView}
use Rattle.pk_iterate.specs.Outcome.{Outcome}
use Rattle.pk_phases.specs.declared.equations.Cell.{Cell}
use Rattle.pk_analysis.specs.declared.analysis.Options.{Options}
use Rattle.pk_analysis.specs.Flows.{Flow}
use Rattle.pk_sound.specs.Runs.{HasElements, Reaches}
use Rattle.pk_sound.specs.Results.{IsAnalysed, known_at_point, reduced_at_point}

-- each number of each variable is one that is known of its slot, the octagons' variables are scalars, and their numbers meet all octagons
pub record AgreesWith (l : Layout) (f : Facts) (s : Stored) : Type 0 where
  pub values : (x i : ℕ) → i < length (numbers_of s x) →
      IsOf (known_at f.values (slot_of l x i)) (number_at (numbers_of s x) i)
  pub scalars : (x : ℕ) → IsChosen l.packs x → length (numbers_of s x) ≡ 1
  pub octagons : MeetAll l.packs f.octagons (number_of s)

abbrev pub Agrees : Layout → Option Facts → Stored → Type 0
Agrees l None s = ⊥
Agrees l (Some f) s = AgreesWith l f s

-- A store has the numbers of the graph's variables. It agrees with what the result knows at a point, and with what that is once it is reduced; where each array has an element, it is a store of both, slot by slot.
pub record IsHeldAt (g : GraphOf) (a : Flow) (it : Outcome (Cell Stated)) (v : ℕ) (s : Stored) : Type 0 where
  pub store : IsStore (kinds_of g) s
  pub known : Agrees a.layout (known_at_point a it v) s
  pub reduced : Agrees a.layout (reduced_at_point a it v) s
  pub member : HasElements g → Member a.layout (known_at_point a it v) (spread s)
  pub reduced_member : HasElements g → Member a.layout (reduced_at_point a it v) (spread s)

-- Each store with which some run comes to a point agrees with what the result knows there.
abbrev pub ResultHoldsRuns : Type 0
ResultHoldsRuns =
    (g : GraphOf) (o : Options) (p : PlanView) (order : Level) (a : Flow) (most : ℕ) (it : Outcome (Cell Stated)) →
    IsAnalysed g o p order a most it → (v : ℕ) (s : Stored) → Reaches g v s → IsHeldAt g a it v s
