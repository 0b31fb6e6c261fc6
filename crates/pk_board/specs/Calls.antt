-- What the calls answer, by the words that they find and the views before and after.
use Rattle.std.specs.Prelude.{◌≡◌, ◌≢◌, ℕ, ◌+◌, ◌-◌, ◌*◌, ◌/◌, ◌%◌, ◌<◌, ◌≤◌, ◌⊎◌, length, map, slice_get, slice_index, Some, true, false, Bool}
use Rattle.std.specs.List.{range_with_len}
use Rattle.pk_plan.specs.Order.{Level}
use Rattle.pk_plan.specs.Plans.{PlanView, end_of, successors_of}
use Rattle.pk_plan.specs.Shape.{shape_of, exits}
use Rattle.pk_iterate.specs.Behaviour.{Behaviour}
use Rattle.pk_iterate.specs.Runs.{values_read}
use Rattle.pk_iterate.specs.Ending.{Ends, trace, result_cell, result_count}
use Rattle.pk_iterate.specs.Outcome.{Outcome}
use Rattle.pk_core.specs.Orders.{IsOrderOf}
use Rattle.pk_layout.specs.Layouts.{first_of}
use Rattle.pk_layout.specs.Wirings.{Wiring}
use Rattle.pk_words.specs.declared.view.View.{View}
use Rattle.pk_words.specs.Tokens.{seen_run}
use Rattle.pk_board.specs.Held.{HoldView, SendingView, ResettingView}
use Rattle.pk_words.specs.Views.{note_view, claim_view, arm_view, head_view, end_view, IsGiven}
use Rattle.pk_words.specs.Reads.{Counts, IsReadAt}
use Rattle.pk_words.specs.Told.{IsRunValue, sent_view}
use Rattle.pk_words.specs.Board.{members_at}
use Rattle.pk_board.specs.Copies.{CopiesView}
use Rattle.pk_board.specs.declared.answers.Got.{Got}
use Rattle.pk_board.specs.declared.answers.Got.TheVariants.{Ready, Waiting}
use Rattle.pk_board.specs.declared.answers.Arrived.{Arrived}
use Rattle.pk_board.specs.declared.answers.Arrived.TheVariants.{Next, Sent}
use Rattle.pk_board.specs.declared.answers.Armed.{Armed}
use Rattle.pk_board.specs.declared.answers.Armed.TheVariants.{More, Head}

-- a word of e has no earlier run than the pass has seen
abbrev pub IsLate : (e word : ℕ) → View → Type 0
IsLate e word old = seen_run e old.notes ≤ word / 1048576

-- a word of e was found
pub record IsFound (e : ℕ) (old new : View) : Type 0 where
  pub word : ℕ
  pub late : IsLate e word old
  pub view : new ≡ note_view e word old

-- The open word of e was found, and taken: the pass has the Hold, whose run number is at most the limit and below the recursion's count.
pub record IsClaimed {C : Type 0} (b : Behaviour C) (w : Wiring) (e : ℕ) (hold : HoldView)
    (old new : View) : Type 0 where
  pub element : hold.element ≡ e
  pub counts : Counts b w e hold.run
  pub late : seen_run e old.notes ≤ hold.run
  pub view : new ≡ claim_view e (hold.run * 1048576 + 262144) (note_view e (hold.run * 1048576 + 262144) old)

-- A word of e was found that isn't open; or an open one was, and at the exchange another, which isn't open or has more runs.
abbrev pub IsSeen : (e word : ℕ) → (old new : View) → Type 0
IsSeen e word old new =
    ((word % 1048576 ≢ 262144) × IsLate e word old × (new ≡ note_view e word old))
    ⊎ ((asked : ℕ) × (asked % 1048576 ≡ 262144) × IsLate e asked old × (asked / 1048576 ≤ word / 1048576)
    × (word ≢ asked) × (new ≡ note_view e word (note_view e asked old)))

-- The last element's word was found, and is done.
pub record IsEnd (p : PlanView) (old new : View) : Type 0 where
  pub word : ℕ
  pub done : word % 1048576 ≡ 262145
  pub late : IsLate (end_of p) word old
  pub view : new ≡ end_view (end_of p) word old

-- it was found, and isn't done
pub record IsNoEnd (p : PlanView) (word : ℕ) (old new : View) : Type 0 where
  pub not_done : word % 1048576 ≢ 262145
  pub late : IsLate (end_of p) word old
  pub view : new ≡ note_view (end_of p) word old

-- a Sending with sends left, and a Resetting with members to be armed
pub record IsSending (p : PlanView) (s : SendingView) : Type 0 where
  pub element : s.element < p.elements
  pub some_left : s.sent < length (successors_of p s.element)

pub record IsResetting (p : PlanView) (r : ResettingView) : Type 0 where
  pub exit : exits p r.exit ≡ true
  pub some_left : 0 < r.left
  pub within : r.left ≤ length (members_at p r.exit)

-- what the target of a send has got, whose word was found: the pass has its Hold exactly where its count was 1
abbrev pub IsGotOf : (target found : ℕ) → Got → Type 0
IsGotOf target found (Ready hold) = (found % 1048576 ≡ 1) × (hold ≡ record { element = target; run = found / 1048576 })
IsGotOf target found (Waiting left) = (found % 1048576 ≡ left + 1) × (0 < left)

-- The next of the successors that are left was told. What it got counts below the limit and the recursion's count.
pub record IsTold {C : Type 0} (b : Behaviour C) (w : Wiring) (s : SendingView) (old new : View)
    (answer : Got) : Type 0 where
  pub found : ℕ
  pub late : IsLate (slice_index (successors_of w.plan s.element) s.sent) found old
  pub got : IsGotOf (slice_index (successors_of w.plan s.element) s.sent) found answer
  pub counts : Counts b w (slice_index (successors_of w.plan s.element) s.sent) (found / 1048576)
  pub view : new ≡ sent_view w.plan s.element s.sent found old

-- a Sending with one send more, or none where it was the last
abbrev pub IsArrived : {C : Type 0} → Behaviour C → Wiring → SendingView → (old new : View) → Arrived → Type 0
IsArrived b w s old new (Next rest got) =
    (rest ≡ record { element = s.element; sent = s.sent + 1 }) × (s.sent + 1 < length (successors_of w.plan s.element))
    × IsTold b w s old new got
IsArrived b w s old new (Sent got) = (s.sent + 1 ≡ length (successors_of w.plan s.element)) × IsTold b w s old new got

-- a slot of the element that e reads at a place was looked at
pub record IsGlance {C : Type 0} (b : Behaviour C) (e place : ℕ) (old new : View) : Type 0 where
  pub element : ℕ
  pub run : ℕ
  pub input : slice_get (b.reads e) place ≡ Some element
  pub late : seen_run element old.notes ≤ run
  pub view : new ≡ note_view element (run * 1048576) old

-- the same of an element's first slot
pub record IsLook (element : ℕ) (old new : View) : Type 0 where
  pub run : ℕ
  pub late : seen_run element old.notes ≤ run
  pub view : new ≡ note_view element (run * 1048576) old

-- The cell is what the Hold's run reads there: that of a run which is no earlier than the pass has seen.
pub record IsInput {C : Type 0} (b : Behaviour C) (w : Wiring) (hold : HoldView) (place : ℕ) (old new : View)
    (cell : C) : Type 0 where
  pub glance : IsGlance b hold.element place old new
  pub value : IsRunValue b w.plan glance.element glance.run cell
  pub read : IsReadAt b w.plan hold.element (hold.run + 1) place cell

-- the cell that the next run of e gives on what the recursion reads, with its decision where e is an exit
abbrev pub IsRunCell : {C : Type 0} → Behaviour C → PlanView → HoldView → (again : Bool) → C → Type 0
IsRunCell b p hold again c =
    (order : Level) (ends : Ends b order) → IsOrderOf (shape_of p) order
    → IsGiven b (exits p hold.element) again hold.element (values_read b (trace ends) hold.element (hold.run + 1)) c

-- the Hold's next run is the last one of its element
abbrev pub IsLastRun : {C : Type 0} → Behaviour C → PlanView → HoldView → Type 0
IsLastRun {C} b p hold = (c : C) × IsRunCell b p hold false c

-- The first slot of a member was looked at. The cell is the member's last one.
pub record IsPeek {C : Type 0} (b : Behaviour C) (w : Wiring) (member : ℕ) (old new : View) (cell : C) : Type 0 where
  pub look : IsLook member old new
  pub last : (order : Level) (ends : Ends b order) → IsOrderOf (shape_of w.plan) order → cell ≡ result_cell ends member

-- one for each slot of the element
pub record AreCopies {C : Type 0} (w : Wiring) (e : ℕ) (copies : CopiesView C) : Type 0 where
  pub element : copies.element ≡ e
  pub count : first_of w.layout e + copies.count ≡ first_of w.layout (e + 1)

-- a member was armed: the head, with which the pass has its Hold, or another
abbrev pub IsArmed : {C : Type 0} → Behaviour C → Wiring → ResettingView → (old new : View) → Armed → Type 0
IsArmed b w r old new (More rest) =
    (rest ≡ record { exit = r.exit; left = r.left - 1 }) × (1 < r.left)
    × ((word : ℕ) × (word % 1048576 ≡ 262145) × IsLate (slice_index (members_at w.plan r.exit) (r.left - 1)) word old
    × (new ≡ arm_view r.exit (r.left - 1) (slice_index (members_at w.plan r.exit) (r.left - 1)) word old))
IsArmed b w r old new (Head hold) =
    (r.left ≡ 1) × (hold.element ≡ slice_index (members_at w.plan r.exit) 0) × Counts b w hold.element hold.run
    × (seen_run hold.element old.notes ≤ hold.run)
    × (new ≡ head_view r.exit hold.element (hold.run * 1048576 + 262145) old)

-- the cells and the numbers of runs that the recursion leaves, none above the limit
pub record IsLeft {C : Type 0} {b : Behaviour C} {order : Level} (ends : Ends b order) (w : Wiring)
    (it : Outcome C) : Type 0 where
  pub cells : it.cells ≡ map (result_cell ends) (range_with_len 0 w.plan.elements)
  pub runs : it.runs ≡ map (result_count ends) (range_with_len 0 w.plan.elements)
  pub within : (e : ℕ) → e < w.plan.elements → result_count ends e ≤ w.limit

abbrev pub IsOutcome : {C : Type 0} → Behaviour C → Wiring → Outcome C → Type 0
IsOutcome b w it = (order : Level) (ends : Ends b order) → IsOrderOf (shape_of w.plan) order → IsLeft ends w it
