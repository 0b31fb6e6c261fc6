-- What the words, the slots at home and the views of the passes show of a core.
use Rattle.std.specs.Prelude.{◌≡◌, ◌≢◌, ℕ, zero, suc, ◌+◌, ◌*◌, ◌<◌, ◌≤◌, ◌⊎◌, List, Option, Some, None, [], slice_index, length, drop, true}
use mathlib.Core.Option.{some, none}
use lib.ListN.{get_elem?}
use Rattle.atomic_table.specs.Table.{State as TableState}
use Rattle.pk_plan.specs.Order.{Level}
use Rattle.pk_plan.specs.Plans.{PlanView, end_of, successors_of, members_of}
use Rattle.pk_plan.specs.Shape.{has, shape_of, component_of, holds, exits}
use Rattle.pk_iterate.specs.Behaviour.{Behaviour}
use Rattle.pk_iterate.specs.Ending.{Ends, result_count}
use Rattle.pk_core.specs.declared.events.Event.{Event}
use Rattle.pk_core.specs.declared.events.Status.{Status}
use Rattle.pk_core.specs.declared.events.Status.TheVariants.{Waiting, Open, Held, Done}
use Rattle.pk_core.specs.States.{Element, State, run_number, cell_in}
use Rattle.pk_core.specs.Events.{start, inner, AllEnabled, played}
use Rattle.pk_core.specs.Orders.{IsOrderOf}
use Rattle.pk_layout.specs.Layouts.{owner_of, reader_of}
use Rattle.pk_layout.specs.Wirings.{Wiring, IsWired}
use Rattle.pk_words.specs.declared.view.View.{View}
use Rattle.pk_words.specs.declared.why.Why.{Why}
use Rattle.pk_words.specs.declared.why.Why.TheVariants.{Memory, RunLimit}
use Rattle.pk_words.specs.Views.{knows_stop}
use Rattle.pk_words.specs.Tokens.{times, number_of, heading, pending, seen_run, total, one_if_held, one_if_any}

-- the low 20 bits of a word; the others are the run number
abbrev pub low : Status → ℕ
low (Waiting n) = n
low Open = 262144
low Held = 0
low Done = 262145

abbrev pub word_of : {C : Type 0} → Element C → ℕ
word_of x = run_number x * 1048576 + low x.status

-- an element that is still to be armed has its done word
abbrev pub word_shown : {C : Type 0} → ℕ → Element C → ℕ
word_shown zero x = word_of x
word_shown (suc n) x = run_number x * 1048576 + 262145

-- the head and the members of the component with the exit x, the head first
abbrev pub head_of : PlanView → ℕ → ℕ
head_of p x = (component_of p x).head

abbrev pub members_at : PlanView → ℕ → List ℕ
members_at p x = members_of p (component_of p x)

-- The component with the exit x is to be gone through again, and no member was run since.
pub record IsRestarting {C : Type 0} (p : PlanView) (s : State C) (x : ℕ) : Type 0 where
  pub exit : exits p x ≡ true
  pub head : (s (head_of p x)).status ≡ Held
  pub exit_waits : (s x).status ≡ Waiting (inner (shape_of p) x x)
  pub member_waits : (u : ℕ) → holds p x u ≡ true → u ≢ head_of p x → (s u).status ≡ Waiting (inner (shape_of p) x u)

-- why a board is stopped, by the stop word
abbrev pub why_of : (limit word : ℕ) → Option Why
why_of limit zero = None
why_of limit (suc zero) = Some Memory
why_of limit (suc (suc e)) = Some (RunLimit e (limit + 1))

-- a run that is named is the first beyond the limit
abbrev pub NamesLimit : ℕ → Why → Type 0
NamesLimit limit Memory = Unit {0}
NamesLimit limit (RunLimit element run) = run ≡ limit + 1

-- The run is the first beyond the limit, and the recursion makes it.
abbrev pub IsCause : {C : Type 0} → Behaviour C → Wiring → Why → Type 0
IsCause b w Memory = Unit {0}
IsCause b w (RunLimit element run) =
    (element < w.plan.elements) × (run ≡ w.limit + 1)
    × ((order : Level) (ends : Ends b order) → IsOrderOf (shape_of w.plan) order → run ≤ result_count ends element)

-- the view has a Hold of e, or of the exit of a component that has e
abbrev pub MayTouch : Wiring → View → ℕ → Type 0
MayTouch w v e =
    (0 < times e v.holds)
    ⊎ ((x : ℕ) × (x < w.plan.elements) × (0 < times x v.holds) × (holds w.plan x e ≡ true))

-- This state of the core is shown.
pub record Shows {C S : Type 0} (b : Behaviour C) (w : Wiring) (value : S → C → Type 0) (core : State C)
    (s : TableState S View) : Type 0 where
  -- word 0 is the seats' own, word 1 says why the board is stopped, and then each element has one
  pub long : length s.words ≡ w.plan.elements + 2
  pub words_are : (e : ℕ) → e < w.plan.elements → slice_index s.words (e + 2)
      ≡ word_shown (total (λ (v : View). pending (members_at w.plan) e v.resets) s.views) (core e)
  pub stop_is : (why : Why) → why_of w.limit (slice_index s.words 1) ≡ Some why → IsCause b w why
  -- for each held element there is one Hold, or one Resetting whose head it is, and no other
  pub held_once : (e : ℕ) → e < w.plan.elements
      → total (λ (v : View). times e v.holds + heading (head_of w.plan) e v.resets) s.views
      ≡ one_if_held (core e).status
  pub runs_are : (id : ℕ) (v : View) → get_elem? s.views id ≡ some v → (e : ℕ) → e < w.plan.elements
      → 0 < times e v.holds → number_of e v.holds ≡ run_number (core e)
  -- for each element with sends left there is one Sending, with just these, and no other
  pub sent_once : (e : ℕ) → e < w.plan.elements
      → total (λ (v : View). times e v.sends) s.views ≡ one_if_any (core e).sends
  pub sends_are : (id : ℕ) (v : View) → get_elem? s.views id ≡ some v → (e : ℕ) → e < w.plan.elements
      → 0 < times e v.sends → drop (number_of e v.sends) (successors_of w.plan e) ≡ (core e).sends
  -- a Resetting's component is to be gone through again; no element is to be armed twice
  pub restarts : (id : ℕ) (v : View) → get_elem? s.views id ≡ some v → (x : ℕ) → 0 < times x v.resets
      → (0 < number_of x v.resets) × (number_of x v.resets ≤ length (members_at w.plan x)) × IsRestarting w.plan core x
  pub armed_once : (e : ℕ) → total (λ (v : View). pending (members_at w.plan) e v.resets) s.views ≤ 1
  -- a slot at home holds its owner's cell; away are only slots that a Hold's element writes or reads
  pub homes_are : (k : ℕ) (x : S) → get_elem? s.homes k ≡ some (some x) → value x (cell_in b core (owner_of w.layout k))
  pub away : (k : ℕ) → get_elem? s.homes k ≡ some none
      → (id : ℕ) × (v : View) × (get_elem? s.views id ≡ some v) × (has k v.out ≡ true)
  pub out_is : (id : ℕ) (v : View) → get_elem? s.views id ≡ some v → (k : ℕ) → has k v.out ≡ true
      → MayTouch w v (owner_of w.layout k) ⊎ MayTouch w v (reader_of w.layout k)
  pub bounded : (e : ℕ) → run_number (core e) ≤ w.limit
  -- the words that were found have no later runs
  pub noted : (id : ℕ) (v : View) → get_elem? s.views id ≡ some v → (e : ℕ) → e < w.plan.elements
      → seen_run e v.notes ≤ run_number (core e)
  -- who saw the last element done was right, and who stopped the board or saw it stopped
  pub over : (id : ℕ) (v : View) → get_elem? s.views id ≡ some v → v.ended ≡ true → (core (end_of w.plan)).status ≡ Done
  pub told : (id : ℕ) (v : View) → get_elem? s.views id ≡ some v → knows_stop v ≡ true → slice_index s.words 1 ≢ 0

-- A list of enabled events exists, and the state after it is shown.
pub record IsBoard {C S : Type 0} (b : Behaviour C) (w : Wiring) (value : S → C → Type 0)
    (s : TableState S View) : Type 0 where
  pub wired : IsWired b w
  pub events : List Event
  pub enabled : AllEnabled b (shape_of w.plan) (start (shape_of w.plan)) events
  pub shows : Shows b w value (played b (shape_of w.plan) (start (shape_of w.plan)) events) s
  -- where a pass is fresh there is no other, no event was made, and the board isn't stopped
  pub begins : (id : ℕ) (v : View) → get_elem? s.views id ≡ some v → v.fresh ≡ true
      → (length s.views ≡ 1) × (events ≡ []) × (slice_index s.words 1 ≡ 0)
