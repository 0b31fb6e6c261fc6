-- A plan with a component in a component, an order of it, and a system that fits it.
use Rattle.std.specs.Prelude.{ℕ, zero, suc, ◌+◌, List, [], ◌∷◌}
use Rattle.pk_plan.specs.Order.{Level, Empty, Vertex_then, Component_then}
use Rattle.pk_plan.specs.Plans.{PlanView}
use Rattle.pk_plan.specs.Axioms.{Axioms}
use Rattle.pk_plan.specs.Shape.{shape_of}
use Rattle.pk_iterate.specs.declared.systems.Decision.{Decision}
use Rattle.pk_iterate.specs.declared.systems.Decision.TheVariants.{Stable, Again}
use Rattle.pk_iterate.specs.Behaviour.{Behaviour}
use Rattle.pk_iterate.specs.Ending.{Ends}
use Rattle.pk_core.specs.Orders.{IsOrderOf}
use Rattle.pk_iterate.specs.Fits.{FitsPlan}

-- 0 and 1 are points, each the head of a component, 2 is the exit of 0's, 3 that of 1's, which lies in 0's, and 4 is END
abbrev pub nested_plan : PlanView
nested_plan = record {
  points = 2;
  elements = 5;
  predecessors = [] ∷ (0 ∷ []) ∷ (3 ∷ []) ∷ (1 ∷ []) ∷ (2 ∷ []) ∷ [];
  successors = (1 ∷ []) ∷ (3 ∷ []) ∷ (4 ∷ []) ∷ (2 ∷ []) ∷ [] ∷ [];
  listing = 0 ∷ 1 ∷ 3 ∷ 2 ∷ 4 ∷ [];
  places = 0 ∷ 1 ∷ 3 ∷ 2 ∷ 4 ∷ [];
  components = record { head = 0; exit = 2; first = 0; end = 3 } ∷ record {
    head = 1;
    exit = 3;
    first = 1;
    end = 2;
  } ∷ [];
}

abbrev pub nested_order : Level
nested_order = Component_then 0 2 (Component_then 1 3 Empty Empty) (Vertex_then 4 Empty)

-- a head reads its exit, itself and what leads to it, an exit itself, its head and what leads to the head
abbrev pub nested_reads : ℕ → List ℕ
nested_reads zero = 2 ∷ 0 ∷ 1 ∷ []
nested_reads (suc zero) = 3 ∷ 1 ∷ 0 ∷ []
nested_reads (suc (suc zero)) = 2 ∷ 0 ∷ 1 ∷ []
nested_reads (suc (suc (suc zero))) = 3 ∷ 1 ∷ 0 ∷ []
nested_reads (suc (suc (suc (suc n)))) = []

abbrev pub total : List ℕ → ℕ
total [] = 1
total (c ∷ cells) = c + total cells

-- an exit goes back once in each entry of its component
abbrev pub turn_of : List ℕ → Decision ℕ
turn_of [] = Stable 0
turn_of (zero ∷ cells) = Again 1
turn_of (suc n ∷ cells) = Stable 0

abbrev pub nested_system : Behaviour ℕ
nested_system = record {
  reads = nested_reads;
  first = λ e. 0;
  apply = λ e cells. total cells;
  decide = λ x cells. turn_of cells;
}

-- it meets all that is asked of a plan, an order and a system
pub record NestedMeetsAll : Type 0 where
  pub axioms : Axioms nested_plan
  pub is_order : IsOrderOf (shape_of nested_plan) nested_order
  pub fits : FitsPlan nested_system nested_plan
  pub ends : Ends nested_system nested_order
