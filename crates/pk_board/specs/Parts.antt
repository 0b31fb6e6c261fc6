-- What a board leaves that lets go of cells.
use Rattle.std.specs.Prelude.{◌≡◌, ℕ, ◌==◌, ◌&&◌, not, Bool, List, map, filter, slice_get}
use Rattle.std.specs.List.{filter_map}
use mathlib.Core.Option.{some}
use lib.ListN.{get_elem?}
use Rattle.pk_plan.specs.Order.{Level}
use Rattle.pk_plan.specs.Plans.{PlanView, end_of}
use Rattle.pk_plan.specs.Shape.{shape_of}
use Rattle.pk_iterate.specs.Behaviour.{Behaviour}
use Rattle.pk_iterate.specs.Ending.{Ends, result_cell}
use Rattle.pk_iterate.specs.Outcome.{Outcome}
use Rattle.pk_core.specs.Orders.{IsOrderOf}
use Rattle.pk_items.specs.Items.{top_of, EndsItem, points_in}
use Rattle.pk_layout.specs.Layouts.{first_of}
use Rattle.pk_layout.specs.Wirings.{Wiring}
use Rattle.pk_words.specs.declared.slot.Slot.{Slot}
use Rattle.pk_words.specs.Kinds.{HasPart, kind_of, IsPartOf}
use Rattle.pk_board.specs.Calls.{IsOutcome}

-- the last elements of the plan's items, in the order of the listing
abbrev pub ends_item : PlanView → ℕ → Bool
ends_item p e = not (e == end_of p) && (top_of p e == e)

abbrev pub items_of : PlanView → List ℕ
items_of p = filter (ends_item p) p.listing

-- the part of the item that j ends, where these cells are left
abbrev pub part_in : {C P : Type 0} → PlanView → (List ℕ → List C → P) → List C → ℕ → P
part_in p make cells j = make (points_in p j) (filter_map (slice_get cells) (points_in p j))

-- The recursion leaves cells and numbers of runs, and these are the parts of the items, made of these cells.
pub record AreParts {C P : Type 0} (b : Behaviour C) (w : Wiring) (make : List ℕ → List C → P)
    (parts : List P) : Type 0 where
  pub outcome : Outcome C
  pub left : IsOutcome b w outcome
  pub made : parts ≡ map (part_in w.plan make outcome.cells) (items_of w.plan)

-- The first slot of each item's last element has this item's part.
abbrev pub HavePartsOf : {C P : Type 0} → Behaviour C → Wiring → (List ℕ → List C → P) → List (Slot C P) → Type 0
HavePartsOf {C} {P} b w make slots =
    (j : ℕ) (x : Slot C P) → EndsItem w.plan j → get_elem? slots (first_of w.layout j) ≡ some x
    → (part : P) × (kind_of x ≡ HasPart part) × IsPartOf b w.plan make j part

-- These are the parts of the items, of what the recursion leaves.
abbrev pub AreMadeOf : {C P : Type 0} → Behaviour C → PlanView → (List ℕ → List C → P) → List P → Type 0
AreMadeOf b p make parts = (order : Level) (ends : Ends b order) → IsOrderOf (shape_of p) order
    → parts ≡ map (λ j. make (points_in p j) (map (result_cell ends) (points_in p j))) (items_of p)
