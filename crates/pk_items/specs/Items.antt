-- The items of a plan: its elements outside all components, and its outermost components. Each is named by its last element.
use Rattle.std.specs.Prelude.{◌≡◌, ◌≢◌, ℕ, ◌<◌, ◌==◌, List, [], ◌∷◌, filter, max, slice_index, if◌then◌else◌}
use Rattle.std.specs.List.{range_with_len}
use Rattle.pk_plan.specs.declared.components.Component.{Component}
use Rattle.pk_plan.specs.Plans.{PlanView, end_of, place_of, is_inside}

-- the last of an element's place and of the ends of those of the components that hold it
abbrev pub last_place : PlanView → ℕ → List Component → ℕ
last_place p e [] = place_of p e
last_place p e (c ∷ cs) = if is_inside p c e then max c.end (last_place p e cs) else last_place p e cs

-- the last, in the listing, of an element and of the exits of the components that hold it
abbrev pub top_of : PlanView → ℕ → ℕ
top_of p e = slice_index p.listing (last_place p e p.components)

-- an item's last element: it lies in no component, and isn't END
pub record EndsItem (p : PlanView) (j : ℕ) : Type 0 where
  pub element : j < p.elements
  pub not_end : j ≢ end_of p
  pub outermost : top_of p j ≡ j

-- the points of the item that j ends, in order of number
abbrev pub points_in : PlanView → ℕ → List ℕ
points_in p j = filter (λ e. top_of p e == j) (range_with_len 0 p.points)
