-- What a report tells is true of every run of the graph.
use Rattle.std.specs.Prelude.{◌≡◌, ◌⊎◌, ℕ, ℤ, ◌<◌, ◌^◌, List, length, Contains, None}
use Rattle.pk_graph.specs.declared.verdicts.Verdict.{Verdict}
use Rattle.pk_graph.specs.declared.verdicts.Verdict.TheVariants.{Safe, Unknown, Unreachable}
use Rattle.pk_graph.specs.Accesses.{AccessOf, OperationOf, accesses_of}
use Rattle.pk_graph.specs.Graphs.{EdgeOf, GraphOf, point_at, kinds_of}
use Rattle.pk_graph.specs.Steps.{Numbers, Failure, Faulted, effect}
use Rattle.pk_graph.specs.Stores.{Stored, storing, IsStore}
use Rattle.pk_graph.specs.WellMade.{IsGraph}
use Rattle.pk_state.specs.Facts.{Stated}
use Rattle.pk_transfer.specs.Graphs.{layout_of}
use Rattle.pk_phases.specs.declared.equations.Cell.{Cell}
use Rattle.pk_plan.specs.Plans.{PlanView}
use Rattle.pk_command.specs.declared.asked.RunOptions.{RunOptions}
use Rattle.pk_analysis.specs.declared.analysis.Options.{Options}
use Rattle.pk_report.specs.Reports.{state_at}
use Rattle.pk_verdict.specs.Verdicts.{verdict_of}
use Rattle.pk_solver.specs.Solved.{AreStates}
use Rattle.pk_sound.specs.Runs.{Reaches}
use Rattle.pk_sound.specs.Held.{Agrees}
use Rattle.pk_sound.specs.Verdicts.{FaultsIn, IsEvaluatedIn}
use Rattle.pk_sound.specs.Bounds.{IsDecidedWithin}
use Rattle.pk_sound.specs.Faults.{IsHidden, IsFailing}
use Rattle.pk_cert_check.specs.Checked.{HoldStates, IsChecked}
use Rattle.pk_cert_report.specs.Checked.{reduced_states}
use Rattle.pk_text_report.specs.Answers.{IsRun}

-- the verdict on an operation at a point is that nothing is known
abbrev pub IsUnknown : (verdict : (point : ℕ) → OperationOf → Verdict) → (point : ℕ) → OperationOf → Type 0
IsUnknown verdict p o = (lo : ℤ) × (hi : ℤ) × (verdict p o ≡ Unknown lo hi)

-- Each store with which a run comes to a point has the numbers of the graph's variables, and agrees with the point's state. No run faults at an access whose verdict is safe, and none evaluates one that is unreachable. What decides one that is unknown lies between its bounds.
-- A run that faults does so at an access of its edge whose verdict is unknown, or at an index that is no access.
pub record AreTrueOf (g : GraphOf) (states : List Stated)
    (verdict : (point : ℕ) → OperationOf → Verdict) : Type 0 where
  pub stores : (v : ℕ) (s : Stored) → Reaches g v s → IsStore (kinds_of g) s
  pub holds : (v : ℕ) (s : Stored) → Reaches g v s → Agrees (state_at states v).layout (state_at states v).facts s
  pub safe : (a : AccessOf) (s : Stored) → Contains (accesses_of g) a → Reaches g a.point s →
      verdict a.point a.operation ≡ Safe → FaultsIn a.operation s → ⊥
  pub unreachable : (a : AccessOf) (s : Stored) → Contains (accesses_of g) a → Reaches g a.point s →
      verdict a.point a.operation ≡ Unreachable → IsEvaluatedIn a.operation s → ⊥
  pub bounds : (a : AccessOf) (lo hi : ℤ) → Contains (accesses_of g) a →
      verdict a.point a.operation ≡ Unknown lo hi → IsDecidedWithin g a.point a.operation lo hi
  pub faults : (p : ℕ) (s : Stored) (e : EdgeOf) (chosen : Numbers) (w : Failure) → Reaches g p s →
      Contains (point_at g p).edges e → effect storing chosen e.instr s ≡ Faulted w
      → ((a : AccessOf) × IsFailing p e.instr w s a × IsUnknown verdict p a.operation) ⊎ IsHidden e.instr w.site s

-- the verdict by the states of the points
abbrev pub verdict_by : List Stated → (point : ℕ) → OperationOf → Verdict
verdict_by states p o = verdict_of (state_at states p).layout (state_at states p).facts o

abbrev pub AreTrueStates : GraphOf → List Stated → Type 0
AreTrueStates g states = AreTrueOf g states (verdict_by states)

-- the states of a report on a graph that is well made
abbrev pub ReportsAreTrue : Type 0
ReportsAreTrue =
    (g : GraphOf) (o : Options) (most : ℕ) (p : PlanView) (states : List Stated) → IsGraph g → o.oct < 2 ^ 31 →
    AreStates g o most p states → AreTrueStates g states

-- those of the report on a text
abbrev pub AnswersAreTrue : Type 0
AnswersAreTrue =
    (text : List ℕ) (o : RunOptions) (unknown : ℕ) (bytes : List ℕ) (run : IsRun text o unknown bytes) →
    o.oct < 2 ^ 31 → AreTrueStates run.graph run.report.states

-- cells that solve the equations of such a graph, reduced, whoever made them
abbrev pub CheckedCellsAreTrue : Type 0
CheckedCellsAreTrue =
    (g : GraphOf) (oct : ℕ) (cells : List (Cell Stated)) → IsGraph g → oct < 2 ^ 31 →
    HoldStates (layout_of g oct) (length g.points) cells → IsChecked g (layout_of g oct) cells None →
    AreTrueStates g (reduced_states (layout_of g oct) cells)
