-- What calls ask of the table, over a board.
use Rattle.std.proofs.Common.{◌≡◌, ℕ, ◌+◌, ◌-◌, ◌*◌, ◌%◌, ◌^◌, ◌<◌, ◌==◌, List, [], ◌∷◌, length, get_or, true, false, sym, ap, subst, ◌∙◌, arith, inl}
use prog.Atomic.{either}
use Rattle.atomic_table.specs.Table.{Me, Allows, Splits}
use Rattle.atomic_table.specs.Seated.{TableId}
use Rattle.pk_plan.specs.Plans.{end_of, successors_of}
use Rattle.pk_plan.specs.Shape.{has}
use Rattle.pk_iterate.specs.Behaviour.{Behaviour}
use Rattle.pk_items.specs.Items.{EndsItem}
use Rattle.pk_layout.specs.Layouts.{first_of, owner_of, slots_of, IsInputSlot}
use Rattle.pk_words.specs.declared.slot.Slot.{Slot}
use Rattle.pk_words.specs.declared.view.View.{View}
use Rattle.pk_words.specs.Subjects.{SubjectView}
use Rattle.pk_words.specs.Tokens.{times, number_of}
use Rattle.pk_words.specs.Views.{HasHold, HasSending, new_view, split_view}
use Rattle.pk_words.specs.Kinds.{IsCellOf, kind_of}
use Rattle.pk_words.specs.Reads.{IsReadAt}
use Rattle.pk_words.specs.Told.{IsIdle, Noted, Offered, Claimed, Sent, Ended, Taken, InputTaken, GivenBack, Finished}
use Rattle.pk_lean_words.proofs.Lean_steps.{lean_loads, lean_offers, lean_claims, lean_sends_to, lean_ends_at, lean_gives_slot, lean_finishes, lean_splits}
use Rattle.pk_lean_words.proofs.Lean_takes.{lean_takes_slot, lean_takes_input}
use Rattle.pk_words.proofs.Sends.{target_low}
use Rattle.pk_words.proofs.Wired.{last_in}
use Rattle.pk_board.specs.Calls.{IsRunCell}
use Rattle.pk_board.specs.Writing.{IsWriting}
use Rattle.pk_board.specs.Lean.{LeanView, HasItems}
use Rattle.pk_board.specs.Results.{ResultsView}
use Rattle.pk_board.specs.Boards.{BoardView, PassView, IsKept, IsWhole, lean_of, rule_of}

-- a board's invariant, at what a contract sees of it
pub at_board : {Y C : Type 0} (meaning : Y → Behaviour C) (board : BoardView Y) (subject key : SubjectView Y) (table : TableId) → (record { subject = subject; table = table }) ≡ board
    → IsKept (meaning subject.system) subject key table → IsKept (meaning board.subject.system) board.subject key table
at_board meaning board subject key table is kept = subst (λ v. IsKept (meaning v.subject.system) v.subject key table) is kept

-- what a board has that lets go of cells
pub items_at : {Y C P : Type 0} (meaning : Y → Behaviour C) (board : BoardView Y) (subject key : SubjectView Y) (table : TableId) (places : List ℕ) (results : ResultsView C) (lean : LeanView P) → (record { subject = subject; table = table }) ≡ board
    → IsWhole (meaning subject.system) subject key table places results lean → board.subject.lean ≡ true → HasItems board.subject.wiring.plan board.subject.wiring.layout lean
items_at {Y} meaning board subject key table places results lean is whole = subst (λ (v : BoardView Y). v.subject.lean ≡ true → HasItems v.subject.wiring.plan v.subject.wiring.layout lean) is whole.items

-- a pass of the board is of its table
pub own_table : {Y : Type 0} (board : BoardView Y) (pass : PassView) (subject : SubjectView Y) (table id : TableId) (view : View) → (record { subject = subject; table = table }) ≡ board → (record { table = id; view = view }) ≡ pass
    → pass.table ≡ board.table → id ≡ table
own_table board pass subject table id view is at of = ap (λ (p : PassView). p.table) at ∙ of ∙ sym (ap (λ (b : BoardView _). b.table) is)

module _ {Y C P : Type 0} (meaning : Y → Behaviour C) (part : Y → List ℕ → List C → P) (board : BoardView Y) (key : SubjectView Y) (table own : TableId) where
  pub load_asked : (id e : ℕ) (me : Me (Slot C P) View) → IsKept (meaning board.subject.system) board.subject key table → own ≡ table → e < board.subject.wiring.plan.elements → IsIdle me
      → (own ≡ table) × (e + 2 < table.words) × Allows (rule_of meaning part key) table.slots id me (e + 2) (λ n. n) (Noted (e + 2 - 2) me)
  load_asked id e me kept of below no_slot =
      let same : e ≡ e + 2 - 2 = omega arith in (
        of,
        omega (arith, kept.words, below),
        subst (λ k. Allows (rule_of meaning part k) table.slots id me (e + 2) (λ n. n) (Noted (e + 2 - 2) me)) (sym kept.about)
            (subst (λ j. Allows (rule_of meaning part board.subject) table.slots id me (e + 2) (λ n. n) (Noted j me)) same
            (lean_loads (meaning board.subject.system) board.subject.wiring (lean_of part board.subject) kind_of table.slots id e me below no_slot)),
      )

  pub claim_asked : (id e asked : ℕ) (me : Me (Slot C P) View) → IsKept (meaning board.subject.system) board.subject key table → own ≡ table → e < board.subject.wiring.plan.elements → IsIdle me → asked % 1048576 ≡ 262144
      → (own ≡ table) × (e + 2 < table.words) × Allows (rule_of meaning part key) table.slots id me (e + 2) (λ n. either (n == asked) (asked - 262144) n) (Claimed (meaning key.system) key.wiring e asked me)
  claim_asked id e asked me kept of below no_slot is_open = (
    of,
    omega (arith, kept.words, below),
    subst (λ k. Allows (rule_of meaning part k) table.slots id me (e + 2) (λ n. either (n == asked) (asked - 262144) n) (Claimed (meaning k.system) k.wiring e asked me)) (sym kept.about)
        (lean_claims (meaning board.subject.system) board.subject.wiring (lean_of part board.subject) kind_of table.slots id e asked me below no_slot is_open),
  )

  pub offer_asked : (id e run : ℕ) (me : Me (Slot C P) View) → IsKept (meaning board.subject.system) board.subject key table → own ≡ table → e < board.subject.wiring.plan.elements → IsIdle me → HasHold me.0 e run
      → (own ≡ table) × (e + 2 < table.words) × Allows (rule_of meaning part key) table.slots id me (e + 2) (λ _. run * 1048576 + 262144) (λ _. Offered e me (run * 1048576 + 262144))
  offer_asked id e run me kept of below no_slot hold = (
    of,
    omega (arith, kept.words, below),
    subst (λ k. Allows (rule_of meaning part k) table.slots id me (e + 2) (λ _. run * 1048576 + 262144) (λ _. Offered e me (run * 1048576 + 262144))) (sym kept.about)
        (lean_offers (meaning board.subject.system) board.subject.wiring (lean_of part board.subject) kind_of table.slots id e run me below no_slot hold),
  )

  pub end_asked : (id last : ℕ) (me : Me (Slot C P) View) → IsKept (meaning board.subject.system) board.subject key table → own ≡ table → last ≡ end_of board.subject.wiring.plan → IsIdle me
      → (own ≡ table) × (last + 2 < table.words) × Allows (rule_of meaning part key) table.slots id me (last + 2) (λ n. n) (Ended (end_of key.wiring.plan) me)
  end_asked id last me kept of is no_slot = (
    of,
    omega (arith, kept.words, is, last_in kept.wired),
    subst (λ k. Allows (rule_of meaning part k) table.slots id me (last + 2) (λ n. n) (Ended (end_of k.wiring.plan) me)) (sym kept.about)
        (subst (λ j. Allows (rule_of meaning part board.subject) table.slots id me (j + 2) (λ n. n) (Ended (end_of board.subject.wiring.plan) me)) (sym is)
        (lean_ends_at (meaning board.subject.system) board.subject.wiring (lean_of part board.subject) kind_of table.slots id me no_slot)),
  )

  pub split_asked : (id : ℕ) (v : View) → IsKept (meaning board.subject.system) board.subject key table → own ≡ table
      → (own ≡ table) × (0 < table.words) × Splits (rule_of meaning part key) id v (split_view v) (new_view v)
  split_asked id v kept of = (of, omega (arith, kept.words), lean_splits (meaning key.system) key.wiring (lean_of part key) kind_of id v)

  pub send_asked : (id a i target : ℕ) (me : Me (Slot C P) View) → IsKept (meaning board.subject.system) board.subject key table → own ≡ table → a < board.subject.wiring.plan.elements → i < length (successors_of board.subject.wiring.plan a)
      → target ≡ get_or (successors_of board.subject.wiring.plan a) i 0 → IsIdle me → HasSending me.0 a i
      → (own ≡ table) × (target + 2 < table.words) × Allows (rule_of meaning part key) table.slots id me (target + 2) (λ n. (n + (2 ^ 64 - 1)) % 2 ^ 64) (Sent (meaning key.system) key.wiring a i me)
  send_asked id a i target me kept of below in_range is no_slot sending = (
    of,
    omega (arith, kept.words, is, target_low (meaning board.subject.system) board.subject.wiring a i kept.wired in_range),
    subst (λ k. Allows (rule_of meaning part k) table.slots id me (target + 2) (λ n. (n + (2 ^ 64 - 1)) % 2 ^ 64) (Sent (meaning k.system) k.wiring a i me)) (sym kept.about)
        (lean_sends_to (meaning board.subject.system) board.subject.wiring (lean_of part board.subject) kind_of table.slots id a i target me below no_slot sending in_range is),
  )

  pub take_asked : (id e k : ℕ) (me : Me (Slot C P) View) → IsKept (meaning board.subject.system) board.subject key table → own ≡ table → e < board.subject.wiring.plan.elements → 0 < times e me.0.holds
      → k < slots_of board.subject.wiring.layout → owner_of board.subject.wiring.layout k ≡ e → has k me.0.out ≡ false
      → (own ≡ table) × (e + 2 < table.words) × Allows (rule_of meaning part key) table.slots id me (e + 2) (λ n. n) (Taken (λ x. Unit {0}) k me)
  take_asked id e k me kept of below held in_slots owner not_out = (
    of,
    omega (arith, kept.words, below),
    subst (λ s. Allows (rule_of meaning part s) table.slots id me (e + 2) (λ n. n) (Taken (λ x. Unit {0}) k me)) (sym kept.about)
        (lean_takes_slot (meaning board.subject.system) board.subject.wiring (lean_of part board.subject) kind_of table.slots id e k me (λ x. Unit {0}) kept.slots below held in_slots (inl owner) not_out (λ s board at x is r. tt)),
  )

  pub input_asked : (id e run place k : ℕ) (me : Me (Slot C P) View) → IsKept (meaning board.subject.system) board.subject key table → own ≡ table → e < board.subject.wiring.plan.elements → HasHold me.0 e run
      → IsInputSlot (meaning board.subject.system) board.subject.wiring.layout e place k → IsIdle me
      → (own ≡ table) × (e + 2 < table.words) × Allows (rule_of meaning part key) table.slots id me (e + 2) (λ n. n) (InputTaken (meaning key.system) key.wiring (IsCellOf kind_of) e run place (owner_of key.wiring.layout k) k me)
  input_asked id e run place k me kept of below hold input no_slot = (
    of,
    omega (arith, kept.words, below),
    subst (λ s. Allows (rule_of meaning part s) table.slots id me (e + 2) (λ n. n) (InputTaken (meaning s.system) s.wiring (IsCellOf kind_of) e run place (owner_of s.wiring.layout k) k me)) (sym kept.about)
        (lean_takes_input (meaning board.subject.system) board.subject.wiring (lean_of part board.subject) kind_of table.slots id e run place k me kept.slots below hold input (ap (has k) no_slot.1)),
  )

  pub give_asked : (id e run place k : ℕ) (x : Slot C P) (c : C) (me : Me (Slot C P) View) → IsKept (meaning board.subject.system) board.subject key table → own ≡ table → e < board.subject.wiring.plan.elements → HasHold me.0 e run
      → me.1 ≡ (k, x) ∷ [] → me.0.out ≡ k ∷ [] → IsInputSlot (meaning board.subject.system) board.subject.wiring.layout e place k → IsCellOf kind_of x c → IsReadAt (meaning board.subject.system) board.subject.wiring.plan e (run + 1) place c
      → (own ≡ table) × (e + 2 < table.words) × Allows (rule_of meaning part key) table.slots id me (e + 2) (λ n. n) (GivenBack me)
  give_asked id e run place k x c me kept of below hold slot_is out_is input is read = (
    of,
    omega (arith, kept.words, below),
    subst (λ s. Allows (rule_of meaning part s) table.slots id me (e + 2) (λ n. n) (GivenBack me)) (sym kept.about)
        (lean_gives_slot (meaning board.subject.system) board.subject.wiring (lean_of part board.subject) kind_of table.slots id e run place k x me kept.slots below hold slot_is out_is input.1 input.2 kept.ends c is read),
  )

  pub done_asked : (id e run : ℕ) (c : C) (old : View) (me : Me (Slot C P) View) → IsKept (meaning board.subject.system) board.subject key table → own ≡ table → e < board.subject.wiring.plan.elements → HasHold old e run → run < board.subject.wiring.limit → (board.subject.lean ≡ true → EndsItem board.subject.wiring.plan e → ⊥)
      → IsWriting board.subject.wiring e c (first_of board.subject.wiring.layout e) old me → IsRunCell (meaning board.subject.system) board.subject.wiring.plan (record { element = e; run = run }) false c
      → (own ≡ table) × (e + 2 < table.words) × Allows (rule_of meaning part key) table.slots id me (e + 2) (λ _. (run + 1) * 1048576 + 262145) (λ _. Finished key.wiring.plan e me ((run + 1) * 1048576 + 262145))
  done_asked id e run c old me kept of below hold room going writing cell =
      let hold' : HasHold me.0 e run = subst (λ (v : View). (0 < times e v.holds) × (number_of e v.holds ≡ run)) (sym writing.rest) hold in (
        of,
        omega (arith, kept.words, below),
        subst (λ s. Allows (rule_of meaning part s) table.slots id me (e + 2) (λ _. (run + 1) * 1048576 + 262145) (λ _. Finished s.wiring.plan e me ((run + 1) * 1048576 + 262145))) (sym kept.about)
            (lean_finishes (meaning board.subject.system) board.subject.wiring (lean_of part board.subject) kind_of table.slots id e run c me going kept.slots below hold' room writing.out writing.right
            (λ k in_slots own. let r = kept.wired.laid_out.no_more e k below in_slots own in writing.every k r.0 r.1)
            kept.ends.0 kept.ends.1 kept.ends.2 (cell kept.ends.0 kept.ends.1 kept.ends.2)),
      )

pub last_is : {Y C : Type 0} {b : Behaviour C} {subject key : SubjectView Y} {table : TableId} {n : ℕ} → IsKept b subject key table → n ≡ subject.wiring.plan.elements → n - 1 ≡ end_of subject.wiring.plan
last_is kept is = omega (arith, is, kept.wired.axioms.counted)
