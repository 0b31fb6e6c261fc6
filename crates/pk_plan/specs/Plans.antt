-- What a plan stands for: elements, the constraints among them, and their components.
use Rattle.std.specs.Prelude.{ℕ, ◌+◌, ◌&&◌, Bool, List, [], length, count_by, nat_lt, nat_le, slice_index, slice_index_or, slice_range, Contains}
use Rattle.pk_plan.specs.declared.components.Component.{Component}

-- Elements are numbers: first the points, then an exit for each component, last END. The listing has each of them once, in an
-- order in which each component is a stretch; `places` says where each element stands in it.
pub record PlanView : Type 0 where
  pub points : ℕ
  pub elements : ℕ
  pub predecessors : List (List ℕ)
  pub successors : List (List ℕ)
  pub listing : List ℕ
  pub places : List ℕ
  pub components : List Component

abbrev pub end_of : PlanView → ℕ
end_of p = p.points + length p.components

abbrev pub predecessors_of : PlanView → ℕ → List ℕ
predecessors_of p e = slice_index_or p.predecessors e []

abbrev pub successors_of : PlanView → ℕ → List ℕ
successors_of p e = slice_index_or p.successors e []

-- a has to be run before b
abbrev pub Constrains : PlanView → ℕ → ℕ → Type 0
Constrains p a b = Contains (successors_of p a) b

-- a list of one or more constraints leads from a to b
pub data Precedes (p : PlanView) (a : ℕ) : ℕ → Type 0 where
  One : {b : ℕ} → Constrains p a b → Precedes p a b
  More : {b c : ℕ} → Precedes p a b → Constrains p b c → Precedes p a c

-- where an element stands in the listing
abbrev pub place_of : PlanView → ℕ → ℕ
place_of p e = slice_index p.places e

-- a component's elements: its head, and the exits of nested components, included, its own exit not
abbrev pub members_of : PlanView → Component → List ℕ
members_of p c = slice_range p.listing c.first c.end

abbrev pub Inside : PlanView → Component → ℕ → Type 0
Inside p c e = Contains (members_of p c) e

-- whether an element's place lies in the component's stretch
abbrev pub is_inside : PlanView → Component → ℕ → Bool
is_inside p c e = nat_le c.first (place_of p e) && nat_lt (place_of p e) c.end

-- how many elements constrain e, and how many of them are in the component
abbrev pub full_count : PlanView → ℕ → ℕ
full_count p e = length (predecessors_of p e)

abbrev pub inner_count : PlanView → Component → ℕ → ℕ
inner_count p c e = count_by (is_inside p c) (predecessors_of p e)

-- the plan that a struct's fields show
abbrev pub plan_of : ℕ → ℕ → List (List ℕ) → List (List ℕ) → List ℕ → List ℕ → List Component → PlanView
plan_of points elements predecessors successors listing places components = record {
  points = points;
  elements = elements;
  predecessors = predecessors;
  successors = successors;
  listing = listing;
  places = places;
  components = components;
}
