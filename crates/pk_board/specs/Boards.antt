-- Boards and passes as contracts see them.
use Rattle.std.specs.Prelude.{◌≡◌, ℕ, ◌+◌, List, [], true}
use Rattle.atomic_table.specs.Seated.{TableId}
use Rattle.atomic_table.specs.Table.{State}
use Rattle.pk_iterate.specs.Behaviour.{Behaviour}
use Rattle.pk_layout.specs.Layouts.{slots_of}
use Rattle.pk_layout.specs.Wirings.{IsWired}
use Rattle.pk_words.specs.declared.slot.Slot.{Slot}
use Rattle.pk_words.specs.declared.view.View.{View}
use Rattle.pk_words.specs.Kinds.{Lean, IsLeanBoard, kind_of}
use Rattle.pk_words.specs.Subjects.{SubjectView}
use Rattle.pk_words.specs.Reads.{HasEnd}
use Rattle.pk_board.specs.Earliest.{AreEarliest}
use Rattle.pk_board.specs.Lean.{LeanView, HasItems}
use Rattle.pk_board.specs.Results.{ResultsView}

-- what a board is about, and its table
pub record BoardView (Y : Type 0) : Type 0 where
  pub subject : SubjectView Y
  pub table : TableId

-- the table that a pass is of, and what the pass knows
pub record PassView : Type 0 where
  pub table : TableId
  pub view : View

-- whether a board lets go of cells, and the part of an item
abbrev pub lean_of : {Y C P : Type 0} → (Y → List ℕ → List C → P) → SubjectView Y → Lean C P
lean_of part subject = record { lets_go = subject.lean; part = part subject.system }

-- the rule of a board's table
abbrev pub rule_of : {Y C P : Type 0} → (Y → Behaviour C) → (Y → List ℕ → List C → P) → SubjectView Y
    → State (Slot C P) View → Type 0
rule_of meaning part subject = IsLeanBoard (meaning subject.system) subject.wiring (lean_of part subject) kind_of

-- The table is about the subject, and has two words more than there are elements; the recursion over the plan ends.
pub record IsKept {Y C : Type 0} (b : Behaviour C) (subject key : SubjectView Y) (table : TableId) : Type 0 where
  pub about : key ≡ subject
  pub words : table.words ≡ subject.wiring.plan.elements + 2
  pub slots : table.slots ≡ slots_of subject.wiring.layout
  pub wired : IsWired b subject.wiring
  pub ends : HasEnd b subject.wiring.plan

-- That, the earliest places are the plan's, there is room for each element's cell and run number, and a board that lets go of
-- cells has the plan's items.
pub record IsWhole {Y C P : Type 0} (b : Behaviour C) (subject key : SubjectView Y) (table : TableId)
    (places : List ℕ) (results : ResultsView C) (lean : LeanView P) : Type 0 where
  pub kept : IsKept b subject key table
  pub earliest : AreEarliest subject.wiring.plan places
  pub room : results ≡ record { cells = []; runs = []; room = subject.wiring.plan.elements }
  pub items : subject.lean ≡ true → HasItems subject.wiring.plan subject.wiring.layout lean
