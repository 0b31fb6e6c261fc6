-- Programs of which no run fails.
use Rattle.std.specs.Prelude.{◌≡◌, ℕ, ◌<◌, ◌^◌, List, Some}
use Rattle.pk_ctypes.specs.declared.faults.Fault.{Fault}
use Rattle.pk_typed.specs.Trees.{UnitTree}
use Rattle.pk_calls.specs.declared.listings.CallPath.{CallPath}
use Rattle.pk_front.specs.Programs.{IsProgram}
use Rattle.pk_graph.specs.declared.trees.Site.{Site}
use Rattle.pk_graph.specs.Graphs.{GraphOf}
use Rattle.pk_graph.specs.Steps.{Numbers}
use Rattle.pk_state.specs.Facts.{Stated}
use Rattle.pk_plan.specs.Plans.{PlanView}
use Rattle.pk_analysis.specs.declared.analysis.Options.{Options}
use Rattle.pk_report.specs.Reports.{unknown_in}
use Rattle.pk_graph_report.specs.Reported.{verdicts_of}
use Rattle.pk_solver.specs.Solved.{AreStates}
use Rattle.pk_text_graph.specs.Graphs.{HasGraph}
use Rattle.pk_cert_report.specs.Checked.{IsValid}
use Rattle.pk_report_laws.specs.Runs.True.{AreTrueStates}
use Rattle.pk_meaning.specs.Programs.{Program}
use Rattle.pk_meaning.specs.Runs.{Visit, start, Runs}
use Rattle.pk_meaning.specs.Steps.{Config, Faulted, step}

-- Whichever numbers the entry's parameters begin with, and wherever the steps of a run lead, whatever is chosen there: the next step doesn't fail.
abbrev pub NoRunFails : Program → Type 0
NoRunFails p =
    (choice : Numbers) (first last : Config) (visits : List Visit) (chosen : Numbers) (fault : Fault) (site : Site) →
    start p choice ≡ Some first → Runs p first visits last → step p chosen last ≡ Faulted fault site → ⊥

-- The text, begun with this function, is a program of which no run fails. It is one program at most.
abbrev pub IsFaultless : (text entry : List ℕ) → Type 0
IsFaultless text entry =
    (unit : UnitTree) (paths : List CallPath) → IsProgram text entry unit paths →
    NoRunFails (record { unit = unit; paths = paths })

-- A text is so where states of its graph's points are true of its runs, and no verdict by them is unknown.
abbrev pub TrueStatesAreFaultless : Type 0
TrueStatesAreFaultless =
    (text entry : List ℕ) (g : GraphOf) → HasGraph text entry g → (states : List Stated) → AreTrueStates g states →
    unknown_in (verdicts_of g states) ≡ 0 → IsFaultless text entry

-- So where the report on its graph has no unknown verdict.
abbrev pub ProgramsAreFaultless : Type 0
ProgramsAreFaultless =
    (text entry : List ℕ) (g : GraphOf) → HasGraph text entry g → (o : Options) (most : ℕ) (p : PlanView)
    (states : List Stated) → o.oct < 2 ^ 31 → AreStates g o most p states → unknown_in (verdicts_of g states) ≡ 0
    → IsFaultless text entry

-- And so where a check of bytes tells none: of the text in their head.
abbrev pub ChecksAreFaultless : Type 0
ChecksAreFaultless =
    (bytes told : List ℕ) (x : IsValid bytes 0 told) → IsFaultless x.head.text x.head.entry
