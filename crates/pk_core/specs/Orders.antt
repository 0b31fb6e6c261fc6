-- An order of a plan, element by element.
use Rattle.std.specs.Prelude.{◌≡◌, ℕ, ◌<◌, List, [], ◌∷◌, map, drop, true, false}
use Rattle.pk_plan.specs.Order.{Level}
use Rattle.pk_plan.specs.Shape.{Shape, has}
use Rattle.pk_iterate.specs.Iteration.{Task, Run, Exit, to_do, element_of}

abbrev pub elements_left : List Task → List ℕ
elements_left left = map element_of left

-- a task of the plan: an exit has the component that the plan gives it
abbrev pub IsTask : Shape → Task → Type 0
IsTask p (Run e) = p.is_exit e ≡ false
IsTask p (Exit head exit rest) = (p.is_exit exit ≡ true)
    × ((u : ℕ) → p.inside exit u ≡ has u (head ∷ elements_left (to_do rest [])))

-- an element, and what comes after it
pub record IsPlaced (p : Shape) (task : Task) (left : List Task) : Type 0 where
  pub in_range : element_of task < p.elements
  pub once : has (element_of task) (elements_left left) ≡ false
  pub forward : (u : ℕ) → has u (p.preds (element_of task)) ≡ true
      → has u (element_of task ∷ elements_left left) ≡ false
  pub is_task : IsTask p task

-- An order of a plan: each element stands in it once, after its predecessors, and its components are the plan's.
pub record IsOrderOf (p : Shape) (order : Level) : Type 0 where
  pub every : (u : ℕ) → u < p.elements → has u (elements_left (to_do order [])) ≡ true
  pub placed : (i : ℕ) (task : Task) (left : List Task) → drop i (to_do order []) ≡ task ∷ left → IsPlaced p task left
