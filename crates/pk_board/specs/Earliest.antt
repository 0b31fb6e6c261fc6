-- Where the first of the elements stands that constrain an element.
use Rattle.std.specs.Prelude.{◌≡◌, ℕ, ◌<◌, List, length, fold, min, slice_index}
use Rattle.pk_plan.specs.Plans.{PlanView, predecessors_of, place_of}

-- the earliest place in the listing among the elements that constrain e; where there are none, the number of elements
abbrev pub earliest_of : PlanView → ℕ → ℕ
earliest_of p e = fold (λ least a. min least (place_of p a)) p.elements (predecessors_of p e)

-- that place of each element
pub record AreEarliest (p : PlanView) (places : List ℕ) : Type 0 where
  pub long : length places ≡ p.elements
  pub each : (e : ℕ) → e < p.elements → slice_index places e ≡ earliest_of p e
