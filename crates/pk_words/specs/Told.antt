-- What the steps tell: the view and the slots after, from those before and the word found.
use Rattle.std.specs.Prelude.{◌≡◌, ◌≢◌, ℕ, ◌+◌, ◌/◌, ◌%◌, ◌<◌, ◌≤◌, ◌==◌, [], ◌∷◌, drop, length, slice_index, Some, true}
use Rattle.std.specs.Bool.{MatchBool}
use Rattle.atomic_table.specs.Table.{Me}
use Rattle.pk_plan.specs.Order.{Level}
use Rattle.pk_plan.specs.Plans.{PlanView, successors_of}
use Rattle.pk_plan.specs.Shape.{shape_of}
use Rattle.pk_iterate.specs.Behaviour.{Behaviour}
use Rattle.pk_iterate.specs.Runs.{run_value}
use Rattle.pk_iterate.specs.Ending.{Ends, trace}
use Rattle.pk_core.specs.Orders.{IsOrderOf}
use Rattle.pk_layout.specs.Wirings.{Wiring}
use Rattle.pk_words.specs.declared.view.View.{View}
use Rattle.pk_words.specs.declared.why.Why.{Why}
use Rattle.pk_words.specs.Tokens.{seen_run}
use Rattle.pk_words.specs.Views.{idle, note_view, offer_view, claim_view, take_view, read_view, arrive_view, done_view, again_view, arm_view, head_view, end_view, stop_view, stop_note_view, knows_stop}
use Rattle.pk_words.specs.Board.{why_of, IsCause, members_at}
use Rattle.pk_words.specs.Reads.{Counts, IsReadAt}

-- A pass between two calls has no slot.
abbrev pub IsIdle : {S : Type 0} → Me S View → Type 0
IsIdle me = (me.1 ≡ []) × (me.0.out ≡ [])

-- The word has no earlier run than the pass has seen of e.
abbrev pub IsLater : {S : Type 0} → ℕ → Me S View → ℕ → Type 0
IsLater e me found = seen_run e me.0.notes ≤ found / 1048576

-- The word of e was found.
abbrev pub Noted : {S : Type 0} → ℕ → Me S View → ℕ → Me S View → Type 0
Noted e me found new = (new ≡ (note_view e found me.0, [])) × IsLater e me found

abbrev pub Offered : {S : Type 0} → ℕ → Me S View → ℕ → Me S View → Type 0
Offered e me found new = new ≡ (offer_view e me.0, [])

-- The open word was found, and the pass has a Hold; or another was.
abbrev pub Claimed : {C S : Type 0} → Behaviour C → Wiring → (e asked : ℕ) → Me S View → ℕ → Me S View → Type 0
Claimed b w e asked me found new =
    MatchBool (found == asked)
    ((new ≡ (claim_view e asked me.0, [])) × Counts b w e (asked / 1048576))
    (new ≡ (note_view e found me.0, []))
    × IsLater e me found

-- a slot is taken, whose value is right
abbrev pub Taken : {S : Type 0} → (S → Type 0) → ℕ → Me S View → ℕ → Me S View → Type 0
Taken {S} right slot me found new = (x : S) × (new ≡ (take_view slot me.0, (slot, x) ∷ me.1)) × right x

-- the run of u with this number gave the cell
abbrev pub IsRunValue : {C : Type 0} → Behaviour C → PlanView → (u run : ℕ) → C → Type 0
IsRunValue b p u run c = (order : Level) (ends : Ends b order) → IsOrderOf (shape_of p) order
    → run_value b (trace ends) u run ≡ c

-- A slot of u is taken: its value is what e's run reads at a place, and no earlier run's than the pass has seen of u.
abbrev pub InputTaken : {C S : Type 0} → Behaviour C → Wiring → (S → C → Type 0) → (e run place u slot : ℕ)
    → Me S View → ℕ → Me S View → Type 0
InputTaken {C} {S} b w value e run place u slot me found new =
    (x : S) × (seen : ℕ) × (new ≡ (read_view slot u seen me.0, (slot, x) ∷ me.1)) × (seen_run u me.0.notes ≤ seen)
    × ((c : C) × value x c × IsRunValue b w.plan u seen c × IsReadAt b w.plan e (run + 1) place c)

abbrev pub GivenBack : {S : Type 0} → Me S View → ℕ → Me S View → Type 0
GivenBack me found new = new ≡ (idle me.0, [])

-- the view after the send of a with the number i
abbrev pub sent_view : PlanView → (a i found : ℕ) → View → View
sent_view p a i found v =
    arrive_view a i (drop (i + 1) (successors_of p a)) (slice_index (successors_of p a) i) found v

-- The send of a with the number i: the count was above 0, and if it was 1 the pass has the target's Hold.
abbrev pub Sent : {C S : Type 0} → Behaviour C → Wiring → (a i : ℕ) → Me S View → ℕ → Me S View → Type 0
Sent b w a i me found new =
    (new ≡ (sent_view w.plan a i found me.0, []))
    × (0 < found % 1048576) × (found % 1048576 < 262144)
    × Counts b w (slice_index (successors_of w.plan a) i) (found / 1048576)
    × IsLater (slice_index (successors_of w.plan a) i) me found

abbrev pub Finished : {S : Type 0} → PlanView → ℕ → Me S View → ℕ → Me S View → Type 0
Finished p e me stored new = new ≡ (done_view e stored (successors_of p e) me.0, [])

-- the word of the last element was found, done or not
abbrev pub Ended : {S : Type 0} → ℕ → Me S View → ℕ → Me S View → Type 0
Ended last me found new =
    MatchBool (found % 1048576 == 262145)
    (new ≡ (end_view last found me.0, []))
    (new ≡ (note_view last found me.0, []))
    × IsLater last me found

-- the exit was run, and its component is to be gone through again
abbrev pub Restarted : {S : Type 0} → PlanView → ℕ → Me S View → ℕ → Me S View → Type 0
Restarted p x me stored new = new ≡ (again_view x stored (length (members_at p x)) me.0, [])

-- the member e was armed, and so many are left
abbrev pub Armed : {S : Type 0} → (x left e : ℕ) → Me S View → ℕ → Me S View → Type 0
Armed x left e me found new =
    (new ≡ (arm_view x left e found me.0, [])) × (found % 1048576 ≡ 262145) × IsLater e me found

-- the head e was armed, and the pass has its Hold
abbrev pub HeadArmed : {C S : Type 0} → Behaviour C → Wiring → (x e : ℕ) → Me S View → ℕ → Me S View → Type 0
HeadArmed b w x e me found new =
    (new ≡ (head_view x e found me.0, [])) × (found % 1048576 ≡ 262145)
    × Counts b w e (found / 1048576) × IsLater e me found

abbrev pub Stopping : {S : Type 0} → Me S View → ℕ → Me S View → Type 0
Stopping me stored new = new ≡ (stop_view stored me.0, [])

-- The stop word was found: it is 0, or says why the board is stopped; where the pass knows of a stop it isn't 0.
abbrev pub StopFound : {C S : Type 0} → Behaviour C → Wiring → Me S View → ℕ → Me S View → Type 0
StopFound b w me found new =
    (new ≡ (stop_note_view found me.0, [])) × ((why : Why) → why_of w.limit found ≡ Some why → IsCause b w why)
    × (knows_stop me.0 ≡ true → found ≢ 0)
