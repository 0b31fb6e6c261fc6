-- What a report tells is true of every run of the C program and of its graph, which have the same visits.
use Rattle.std.specs.Prelude.{◌≡◌, ℕ, ◌<◌, ◌^◌, true, false, List, [], ◌∷◌, Contains, Option}
use Rattle.pk_graph.specs.Accesses.{accesses_of}
use Rattle.pk_graph.specs.Graphs.{EdgeOf, GraphOf, point_at}
use Rattle.pk_graph.specs.Steps.{Numbers, Failure, To, effect}
use Rattle.pk_graph.specs.Stores.{Stored, storing}
use Rattle.pk_state.specs.Facts.{Stated}
use Rattle.pk_transfer.specs.Graphs.{layout_of}
use Rattle.pk_plan.specs.Plans.{PlanView}
use Rattle.pk_analysis.specs.declared.analysis.Options.{Options}
use Rattle.pk_solver.specs.Solved.{AreStates}
use Rattle.pk_meaning.specs.Programs.{Program}
use Rattle.pk_meaning.specs.Runs.{Visit}
use Rattle.pk_meaning.specs.Endings.{ProgramVisits}
use Rattle.pk_visits.specs.GraphVisits.{Begins, is_visit, visit_at}
use Rattle.pk_visits.specs.SameVisits.{EndsAt, HaveSameVisits}
use Rattle.pk_visits.specs.Turning.{graph_turns}
use Rattle.pk_computed_laws.specs.Computed.{IsFolded}
use Rattle.pk_loop_heads.specs.Laws.{IsPlainLoop}
use Rattle.pk_loop_heads_texts.specs.Laws.{TurnsAreHeads}
use Rattle.pk_text_graph.specs.Graphs.{HasGraph}
use Rattle.pk_cert_report.specs.Checked.{reduced_states, IsValid}
use Rattle.pk_report_laws.specs.Runs.True.{AreTrueOf, AreTrueStates, verdict_by}
use Rattle.pk_report_laws.specs.Programs.Told.{Told, IsToldOf}
use Rattle.pk_report_laws.specs.Programs.Reached.{OperationsAreReached}
use Rattle.pk_report_laws.specs.Programs.ToldOfPrograms.{HoldsOfProgram}

-- A run of the graph from a point with a store to another, with its visits behind the first: each step goes over an edge of its point and gives the next store, with numbers where some are chosen. It is a visit of the edge's end with that store, told there, unless the edge writes a variable that isn't in scope at its end.
pub data AreToldAlong (g : GraphOf) (states : List Stated) : ℕ → Stored → List Visit → ℕ → Stored →
    Type 0 where
  ends : {p : ℕ} {s : Stored} → AreToldAlong g states p s [] p s
  seen : {p q : ℕ} {s t r : Stored} {e : EdgeOf} {vs : List Visit} (chosen : Numbers) →
      Contains (point_at g p).edges e → effect storing chosen e.instr s ≡ To t → is_visit g e ≡ true →
      IsToldOf g states e.to (visit_at g e.to t) → AreToldAlong g states e.to t vs q r →
      AreToldAlong g states p s (visit_at g e.to t ∷ vs) q r
  passed : {p q : ℕ} {s t r : Stored} {e : EdgeOf} {vs : List Visit} (chosen : Numbers) →
      Contains (point_at g p).edges e → effect storing chosen e.instr s ≡ To t → is_visit g e ≡ false →
      AreToldAlong g states e.to t vs q r → AreToldAlong g states p s vs q r

-- The visits are those of a run of the graph from point 0, with one of its first stores, each told of the point at which the run is then. A failure is one of an edge where the run ends.
pub record AreToldInOrder (g : GraphOf) (states : List Stated) (visits : List Visit)
    (end : Option Failure) : Type 0 where
  pub first : Stored
  pub point : ℕ
  pub last : Stored
  pub others : List Visit
  pub starts : Begins g first
  pub visits_are : visits ≡ visit_at g 0 first ∷ others
  pub begins : IsToldOf g states 0 (visit_at g 0 first)
  pub goes_on : AreToldAlong g states 0 first others point last
  pub at_end : EndsAt g point last end

-- What is told holds of the program. The program and its graph have the same visits, and no run of the graph leaves what is told of the points that it comes to; several points can have one place: the run of the graph tells which of them
-- a visit is at. An operator on constants without a line has its value in its place. Where nothing jumps into a loop, the point at which it begins again is a head exactly if edges lead to it from two points, from before the loop and back.
pub record IsTrueOfProgram (p : Program) (t : Told) : Type 0 where
  pub holds : HoldsOfProgram p t
  pub runs : HaveSameVisits p t.graph
  pub points : AreTrueOf t.graph t.states t.verdict
  pub walks : (visits : List Visit) (end : Option Failure) → ProgramVisits p visits end →
      AreToldInOrder t.graph t.states visits end
  pub computed : OperationsAreReached p t (IsFolded p)
  pub heads : TurnsAreHeads t.graph (IsPlainLoop p.unit p.paths) t.turns

-- what states of a program's graph tell
abbrev pub told_by : Program → GraphOf → (heads : List ℕ) → List Stated → Told
told_by p g heads states = record {
  graph = g;
  heads = heads;
  states = states;
  accesses = accesses_of g;
  verdict = verdict_by states;
  turns = graph_turns p.unit p.paths;
}

-- the program that a text is, with its call paths
abbrev pub program_of : {text entry : List ℕ} {g : GraphOf} → HasGraph text entry g → Program
program_of h = record { unit = h.unit; paths = h.paths }

-- States of the points of a text's graph that are true of its runs are true of every run of the program that the text is.
abbrev pub TrueStatesAreTrueOfPrograms : Type 0
TrueStatesAreTrueOfPrograms =
    (text entry : List ℕ) (g : GraphOf) (h : HasGraph text entry g) (heads : List ℕ) (states : List Stated) →
    AreTrueStates g states → IsTrueOfProgram (program_of h) (told_by (program_of h) g heads states)

-- So are those that a report tells.
abbrev pub ReportsAreTrueOfPrograms : Type 0
ReportsAreTrueOfPrograms =
    (text entry : List ℕ) (g : GraphOf) (h : HasGraph text entry g) (o : Options) (most : ℕ) (p : PlanView)
    (heads : List ℕ) (states : List Stated) → o.oct < 2 ^ 31 → AreStates g o most p states
    → IsTrueOfProgram (program_of h) (told_by (program_of h) g heads states)

-- And so are those by which a check of bytes tells its verdicts, reduced, whoever wrote the bytes.
abbrev pub ChecksAreTrueOfPrograms : Type 0
ChecksAreTrueOfPrograms =
    (bytes : List ℕ) (unknown : ℕ) (told : List ℕ) (x : IsValid bytes unknown told) →
    IsTrueOfProgram (program_of x.of_graph.has_graph)
    (told_by (program_of x.of_graph.has_graph) x.graph [] (reduced_states (layout_of x.graph x.head.oct) x.cells))
