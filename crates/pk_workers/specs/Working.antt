-- What a worker has, and what it leaves.
use Rattle.std.specs.Prelude.{◌≡◌, ℕ, ◌+◌, ◌<◌, ◌≤◌, List, [], ◌∷◌, Option, Some, None, All, box_value, true, false}
use Rattle.atomic_table.specs.Seated.{TableId}
use Rattle.pk_plan.specs.Order.{Level}
use Rattle.pk_plan.specs.Plans.{PlanView}
use Rattle.pk_plan.specs.Shape.{shape_of}
use Rattle.pk_iterate.specs.Behaviour.{Behaviour}
use Rattle.pk_iterate.specs.Runs.{values_read}
use Rattle.pk_iterate.specs.Ending.{Ends, trace}
use Rattle.pk_core.specs.Orders.{IsOrderOf}
use Rattle.pk_layout.specs.Wirings.{Wiring}
use Rattle.pk_items.specs.Items.{EndsItem}
use Rattle.pk_words.specs.declared.view.View.{View}
use Rattle.pk_words.specs.Tokens.{seen_run}
use Rattle.pk_words.specs.Board.{IsCause}
use Rattle.pk_board.specs.Held.{HoldView, SendingView, ResettingView}
use Rattle.pk_words.specs.Reads.{Counts}
use Rattle.pk_words.specs.Kinds.{IsPartOf}
use Rattle.pk_words.specs.Subjects.{SubjectView}
use Rattle.pk_board.specs.Calls.{IsRunCell}
use Rattle.pk_board.specs.declared.answers.Got.{Got}
use Rattle.pk_board.specs.declared.answers.Got.TheVariants.{Ready, Waiting}
use Rattle.pk_workers.specs.declared.workers.Job.{Job}
use Rattle.pk_workers.specs.declared.runs.Turn.{Turn}
use Rattle.pk_workers.specs.declared.runs.Turn.TheVariants.{Again, Done, Last}
use Rattle.pk_workers.specs.declared.turns.Ending.{Ending}
use Rattle.pk_workers.specs.declared.turns.Ending.TheVariants.{Finished, Stopped}

-- the tokens of a pass that has one of a kind at most
abbrev pub holds_of : Option HoldView → List (ℕ × ℕ)
holds_of None = []
holds_of (Some h) = (h.element, h.run) ∷ []

abbrev pub sends_of : Option SendingView → List (ℕ × ℕ)
sends_of None = []
sends_of (Some s) = (s.element, s.sent) ∷ []

abbrev pub resets_of : Option ResettingView → List (ℕ × ℕ)
resets_of None = []
resets_of (Some r) = (r.exit, r.left) ∷ []

-- the pass has these tokens and no others
pub record HasJust (v : View) (hold : Option HoldView) (sending : Option SendingView)
    (resetting : Option ResettingView) : Type 0 where
  pub holds : v.holds ≡ holds_of hold
  pub sends : v.sends ≡ sends_of sending
  pub resets : v.resets ≡ resets_of resetting

-- the Holds of a pass that told an element
abbrev pub got_holds : Got → List (ℕ × ℕ) → List (ℕ × ℕ)
got_holds (Ready h) hs = (h.element, h.run) ∷ hs
got_holds (Waiting left) hs = hs

-- the pass has the tokens that it had
pub record HasSame (old new : View) : Type 0 where
  pub holds : new.holds ≡ old.holds
  pub sends : new.sends ≡ old.sends
  pub resets : new.resets ≡ old.resets

-- the pass has seen no fewer runs than before
abbrev pub HasSeen : (old new : View) → Type 0
HasSeen old new = (e : ℕ) → seen_run e old.notes ≤ seen_run e new.notes

-- The recursion runs the Hold's element once more.
pub record IsRunnable {C : Type 0} (b : Behaviour C) (w : Wiring) (h : HoldView) : Type 0 where
  pub element : h.element < w.plan.elements
  pub counts : Counts b w h.element h.run

abbrev pub IsGotRunnable : {C : Type 0} → Behaviour C → Wiring → Got → Type 0
IsGotRunnable b w (Ready h) = IsRunnable b w h
IsGotRunnable b w (Waiting left) = Unit {0}

-- The pass told an element, which got something; else it has this Hold and this Sending.
pub record HasGot {C : Type 0} (b : Behaviour C) (w : Wiring) (v : View) (kept : Option HoldView) (got : Got)
    (rest : Option SendingView) : Type 0 where
  pub holds : v.holds ≡ got_holds got (holds_of kept)
  pub sends : v.sends ≡ sends_of rest
  pub resets : v.resets ≡ []
  pub runnable : IsGotRunnable b w got

-- the cells that the Hold's run reads in the recursion
abbrev pub AreInputs : {C : Type 0} → Behaviour C → PlanView → HoldView → List C → Type 0
AreInputs b p hold cells = (order : Level) (ends : Ends b order) → IsOrderOf (shape_of p) order
    → cells ≡ values_read b (trace ends) hold.element (hold.run + 1)

-- how a run ends that gives this cell
abbrev pub IsTurn : {Y C P : Type 0} → Behaviour C → SubjectView Y → (List ℕ → List C → P) → HoldView → C → Turn P → Type 0
IsTurn b s make hold c Again = IsRunCell b s.wiring.plan hold true c
IsTurn b s make hold c Done =
    IsRunCell b s.wiring.plan hold false c × (s.lean ≡ true → EndsItem s.wiring.plan hold.element → ⊥)
IsTurn b s make hold c (Last part) =
    IsRunCell b s.wiring.plan hold false c × (s.lean ≡ true) × EndsItem s.wiring.plan hold.element
    × IsPartOf b s.wiring.plan make hold.element (box_value part)

-- The pass found the last element done, or the board was stopped for this cause.
abbrev pub IsEnding : {C D P : Type 0} → Behaviour C → Wiring → TableId → Ending D P → Type 0
IsEnding b w table (Finished pass finished) = (pass.table ≡ table) × (pass.view.ended ≡ true)
IsEnding b w table (Stopped why) = IsCause b w why

abbrev pub AreEndings : {C D P : Type 0} → Behaviour C → Wiring → TableId → List (Ending D P) → Type 0
AreEndings {C} {D} {P} b w table endings = All (λ (e : Ending D P). IsEnding b w table e) endings

-- passes of the board, without tokens
abbrev pub AreJobs : {D P B : Type 0} → TableId → List (Job D P B) → Type 0
AreJobs {D} {P} {B} table jobs = All (λ (j : Job D P B). (j.pass.table ≡ table) × HasJust j.pass.view None None None) jobs
