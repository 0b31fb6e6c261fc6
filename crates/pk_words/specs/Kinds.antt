-- What the slots of a board hold: a further rule, beside that of the words.
use Rattle.std.specs.Prelude.{◌≡◌, ℕ, ◌+◌, ◌%◌, ◌==◌, ◌&&◌, not, List, map, slice_index, box_value, Bool, true, false}
use Rattle.std.specs.Arc.{arc_value}
use Rattle.atomic_table.specs.Table.{State as TableState}
use Rattle.pk_plan.specs.Order.{Level}
use Rattle.pk_plan.specs.Plans.{PlanView, end_of}
use Rattle.pk_plan.specs.Shape.{shape_of}
use Rattle.pk_iterate.specs.Behaviour.{Behaviour}
use Rattle.pk_iterate.specs.Ending.{Ends, result_cell}
use Rattle.pk_core.specs.Orders.{IsOrderOf}
use Rattle.pk_items.specs.Items.{top_of, EndsItem, points_in}
use Rattle.pk_lift.specs.Further.{Right, Both}
use Rattle.pk_layout.specs.Layouts.{first_of, reader_of}
use Rattle.pk_layout.specs.Wirings.{Wiring}
use Rattle.pk_words.specs.declared.slot.Slot.{Slot}
use Rattle.pk_words.specs.declared.slot.Slot.TheVariants.{Cell, Gone, Part}
use Rattle.pk_words.specs.declared.view.View.{View}
use Rattle.pk_words.specs.Board.{IsBoard}

-- A slot has a cell, or has let go of it, or has the part of an item.
pub data Kind (C P : Type 0) : Type 0 where
  HasCell : C → Kind C P
  IsGone : Kind C P
  HasPart : P → Kind C P

abbrev pub kind_of : {C P : Type 0} → Slot C P → Kind C P
kind_of (Cell cell) = HasCell (arc_value cell)
kind_of Gone = IsGone
kind_of (Part part) = HasPart (box_value part)

abbrev pub IsValue : {C P : Type 0} → Kind C P → C → Type 0
IsValue (HasCell d) c = d ≡ c
IsValue IsGone c = Unit {0}
IsValue (HasPart part) c = Unit {0}

-- the slot has this cell
abbrev pub IsCellOf : {C P S : Type 0} → (S → Kind C P) → S → C → Type 0
IsCellOf kind x c = kind x ≡ HasCell c

-- as far as the words' rule sees: if there is a cell, it is this one
abbrev pub HasValue : {C P S : Type 0} → (S → Kind C P) → S → C → Type 0
HasValue kind x c = IsValue (kind x) c

-- whether cells are let go of, and the part of an item, by its points and their last cells
pub record Lean (C P : Type 0) : Type 0 where
  pub lets_go : Bool
  pub part : List ℕ → List C → P

-- the last element of e's item is done, by its word, and the board lets go of cells; END is in no item
abbrev pub is_over : PlanView → (lets_go : Bool) → List ℕ → ℕ → Bool
is_over p lets_go words e =
    lets_go && (not (e == end_of p) && (slice_index words (top_of p e + 2) % 1048576 == 262145))

-- the part of the item that j ends: of its points' last cells
abbrev pub IsPartOf : {C P : Type 0} → Behaviour C → PlanView → (List ℕ → List C → P) → ℕ → P → Type 0
IsPartOf b p make j part = (order : Level) (ends : Ends b order) → IsOrderOf (shape_of p) order
    → part ≡ make (points_in p j) (map (result_cell ends) (points_in p j))

-- k is where the part of the item goes that j ends: the first slot of j
abbrev pub IsPartSlot : Wiring → (j k : ℕ) → Type 0
IsPartSlot w j k = EndsItem w.plan j × (k ≡ first_of w.layout j)

-- a slot has its cell until its reader is over; then it has none, but for the part
abbrev pub IsRightKind : {C P : Type 0} → Behaviour C → Wiring → Lean C P → (over : Bool) → (k : ℕ) → Kind C P → Type 0
IsRightKind b w lean over k (HasCell c) = over ≡ false
IsRightKind b w lean over k IsGone = (over ≡ true) × ((j : ℕ) → IsPartSlot w j k → ⊥)
IsRightKind b w lean over k (HasPart part) =
    (over ≡ true) × ((j : ℕ) × IsPartSlot w j k × IsPartOf b w.plan lean.part j part)

abbrev pub right_in : {C P S : Type 0} → Behaviour C → Wiring → Lean C P → (S → Kind C P) → Right S
right_in b w lean kind words k x =
    IsRightKind b w lean (is_over w.plan lean.lets_go words (reader_of w.layout k)) k (kind x)

-- the rule of a board: that of the words, and that
abbrev pub IsLeanBoard : {C P S : Type 0} → Behaviour C → Wiring → Lean C P → (S → Kind C P)
    → TableState S View → Type 0
IsLeanBoard b w lean kind s = Both (IsBoard b w (HasValue kind)) (right_in b w lean kind) s
