-- What every board keeps of its slots.
use Rattle.std.specs.Prelude.{◌≡◌, ◌≢◌, ℕ, ◌<◌, true}
use mathlib.Core.Option.{some}
use lib.ListN.{get_elem?}
use Rattle.atomic_table.specs.Table.{State as TableState}
use Rattle.pk_plan.specs.Order.{Level}
use Rattle.pk_plan.specs.Plans.{end_of}
use Rattle.pk_plan.specs.Shape.{shape_of}
use Rattle.pk_iterate.specs.Behaviour.{Behaviour}
use Rattle.pk_iterate.specs.Ending.{Ends}
use Rattle.pk_core.specs.declared.events.Status.TheVariants.{Done}
use Rattle.pk_core.specs.States.{State, cell_in}
use Rattle.pk_core.specs.Orders.{IsOrderOf}
use Rattle.pk_layout.specs.Layouts.{first_of, owner_of, reader_of}
use Rattle.pk_layout.specs.Wirings.{Wiring}
use Rattle.pk_items.specs.Items.{top_of}
use Rattle.pk_items.specs.Over.{IsLast}
use Rattle.pk_words.specs.declared.view.View.{View}
use Rattle.pk_words.specs.Kinds.{Kind, IsGone, HasPart, IsCellOf, Lean, IsPartOf, IsLeanBoard}
use Rattle.pk_words.specs.Laws.{core_of}

-- The item of e is over, and the board lets go of cells. END is in no item.
pub record IsItemOver {C P : Type 0} (w : Wiring) (lean : Lean C P) (core : State C) (e : ℕ) : Type 0 where
  pub lets_go : lean.lets_go ≡ true
  pub not_end : e ≢ end_of w.plan
  pub done : (core (top_of w.plan e)).status ≡ Done

-- what a slot has, by the state of the core
pub record IsRightSlot {C P S : Type 0} (b : Behaviour C) (w : Wiring) (lean : Lean C P) (kind : S → Kind C P)
    (core : State C) (k : ℕ) (x : S) : Type 0 where
  -- until its reader's item is over, its owner's cell
  pub cell : (IsItemOver w lean core (reader_of w.layout k) → ⊥)
      → IsCellOf kind x (cell_in b core (owner_of w.layout k))
  -- then nothing
  pub gone : IsItemOver w lean core (reader_of w.layout k)
      → k ≢ first_of w.layout (top_of w.plan (reader_of w.layout k))
      → kind x ≡ IsGone
  -- but where it is the first slot of the item's last element the item's part
  pub part : IsItemOver w lean core (reader_of w.layout k)
      → k ≡ first_of w.layout (top_of w.plan (reader_of w.layout k))
      → (part : P) × (kind x ≡ HasPart part) × IsPartOf b w.plan lean.part (top_of w.plan (reader_of w.layout k)) part

pub record EveryBoardLetsGo {C P S : Type 0} (b : Behaviour C) (kind : S → Kind C P) : Type 0 where
  pub slots : (w : Wiring) (lean : Lean C P) (s : TableState S View) (both : IsLeanBoard b w lean kind s)
      (k : ℕ) (x : S) → get_elem? s.homes k ≡ some (some x) → IsRightSlot b w lean kind (core_of both.0) k x
  -- each element of an item that is over has its last cell, and isn't run any more
  pub over : (w : Wiring) (lean : Lean C P) (s : TableState S View) (both : IsLeanBoard b w lean kind s)
      (order : Level) (ends : Ends b order) → IsOrderOf (shape_of w.plan) order → (e : ℕ) → e < w.plan.elements
      → IsItemOver w lean (core_of both.0) e → IsLast b ends (core_of both.0) e
