-- What every board keeps to.
use Rattle.std.specs.Prelude.{◌≡◌, ℕ, ◌+◌, ◌<◌, ◌≤◌, slice_index, length, true}
use mathlib.Core.Option.{some}
use lib.ListN.{get_elem?}
use Rattle.atomic_table.specs.Table.{State as TableState}
use Rattle.pk_plan.specs.Order.{Level}
use Rattle.pk_plan.specs.Plans.{predecessors_of}
use Rattle.pk_plan.specs.Shape.{shape_of}
use Rattle.pk_iterate.specs.Behaviour.{Behaviour}
use Rattle.pk_iterate.specs.Ending.{Ends}
use Rattle.pk_core.specs.States.{State, run_number}
use Rattle.pk_core.specs.Events.{start, start_status, played}
use Rattle.pk_core.specs.Orders.{IsOrderOf}
use Rattle.pk_core.specs.Promises.{KeepsTo}
use Rattle.pk_layout.specs.Layouts.{owner_of}
use Rattle.pk_layout.specs.Wirings.{Wiring}
use Rattle.pk_words.specs.declared.view.View.{View}
use Rattle.pk_words.specs.Tokens.{times}
use Rattle.pk_words.specs.Board.{low, IsBoard}

-- the state of the core that a board shows
abbrev pub core_of : {C S : Type 0} {b : Behaviour C} {w : Wiring} {value : S → C → Type 0} {s : TableState S View}
    → IsBoard b w value s → State C
core_of {b = b} {w = w} board = played b (shape_of w.plan) (start (shape_of w.plan)) board.events

-- the element stands in both as it stands in the other
pub record IsSameAt {C : Type 0} (s t : State C) (e : ℕ) : Type 0 where
  pub status : (s e).status ≡ (t e).status
  pub run : run_number (s e) ≡ run_number (t e)
  pub sends : (s e).sends ≡ (t e).sends

-- One pass, no stop, each element as it stands in the core at the start, and each slot at home with its owner's first cell.
pub record IsStart {C S : Type 0} (b : Behaviour C) (w : Wiring) (value : S → C → Type 0) (s : TableState S View)
    : Type 0 where
  pub alone : length s.views ≡ 1
  pub going : slice_index s.words 1 ≡ 0
  pub words : (e : ℕ) → e < w.plan.elements
      → slice_index s.words (e + 2) ≡ low (start_status (predecessors_of w.plan e))
  pub homes : (k : ℕ) (x : S) → get_elem? s.homes k ≡ some (some x) → value x (b.first (owner_of w.layout k))

pub record EveryBoardKeeps {C S : Type 0} (b : Behaviour C) (value : S → C → Type 0) : Type 0 where
  -- the state that a board shows keeps to the recursion over any order of its plan in which it ends
  pub keeps : (w : Wiring) (s : TableState S View) (board : IsBoard b w value s) (order : Level) (ends : Ends b order)
      → IsOrderOf (shape_of w.plan) order → KeepsTo b w.plan ends (core_of board)
  -- it shows no other: whatever events have led there, each element stands the same
  pub one_state : (w : Wiring) (s : TableState S View) (board other : IsBoard b w value s) (e : ℕ)
      → e < w.plan.elements → IsSameAt (core_of board) (core_of other) e
  -- a board of which a pass is fresh stands at the start
  pub begins : (w : Wiring) (s : TableState S View) → IsBoard b w value s → (id : ℕ) (v : View)
      → get_elem? s.views id ≡ some v → v.fresh ≡ true → IsStart b w value s
  -- a pass has at most one Hold of an element, and no other pass has one
  pub one : (w : Wiring) (s : TableState S View) → IsBoard b w value s → (id : ℕ) (v : View)
      → get_elem? s.views id ≡ some v → (e : ℕ) → e < w.plan.elements → times e v.holds ≤ 1
  pub alone : (w : Wiring) (s : TableState S View) → IsBoard b w value s → (i j : ℕ) (v x : View)
      → get_elem? s.views i ≡ some v → get_elem? s.views j ≡ some x → (e : ℕ) → e < w.plan.elements
      → 0 < times e v.holds → 0 < times e x.holds → i ≡ j
