-- What is told is true of every run of a program: said of the program's steps and of lines alone.
use Rattle.std.specs.Prelude.{◌≡◌, ℕ, ℤ, List, All, Contains, Option, Some, None}
use Rattle.pk_graph.specs.declared.verdicts.Verdict.TheVariants.{Unknown}
use Rattle.pk_graph.specs.Accesses.{AccessOf, fault_of}
use Rattle.pk_graph.specs.Steps.{Numbers, Failure}
use Rattle.pk_meaning.specs.Programs.{Program}
use Rattle.pk_meaning.specs.Work.{Place, Loop, Ahead, Turn}
use Rattle.pk_meaning.specs.Steps.{Config}
use Rattle.pk_meaning.specs.Runs.{Visit, visit_of, start, Runs}
use Rattle.pk_meaning.specs.Endings.{ProgramVisits, IsNeverStuck}
use Rattle.pk_access_laws.specs.Laws.{NoneTwice}
use Rattle.pk_computed_laws.specs.Computed.{IsOnConstants}
use Rattle.pk_loop_texts.specs.Laws.{BeginsAtOne}
use Rattle.pk_visits.specs.Turns.{turning}
use Rattle.pk_report_laws.specs.Programs.Told.{Told, told_verdict, IsToldOf, IsToldVisit}
use Rattle.pk_report_laws.specs.Programs.Reached.{OperationsAreReached, UnreachableIsNotComputed}

-- A fault has a line, `access PATH L:C KIND unknown [lo,hi]`: an access with its calls, its place and its kind, whose verdict is unknown.
pub record IsToldFault (t : Told) (f : Failure) : Type 0 where
  pub access : AccessOf
  pub listed : Contains t.accesses access
  pub place : access.site ≡ f.site
  pub kind : fault_of access.operation ≡ f.fault
  pub lo : ℤ
  pub hi : ℤ
  pub unknown : told_verdict t access ≡ Unknown lo hi

abbrev pub IsToldEnd : Told → Option Failure → Type 0
IsToldEnd t None = Unit {0}
IsToldEnd t (Some f) = IsToldFault t f

-- Wherever a run begins a turn of a loop, what is told of a point of that loop's path and place is true: the point at which the loop begins again.
abbrev pub TurnsAreTold : Program → Told → Type 0
TurnsAreTold p t =
    (choice : Numbers) (first last : Config) (visits : List Visit) (here behind : Place) (loop : Loop) (a : Ahead) →
    start p choice ≡ Some first → Runs p first visits last → last.work ≡ Turn here loop behind a →
    (point : ℕ) × Contains (t.turns last.path) (turning here.at point)
    × IsToldOf t.graph t.states point (visit_of p last)

-- No run of the program is stuck. Each visit of each run is told, and the fault at its end if there is one. No two accesses are of one path, place and kind; what a run computes has one that isn't
-- unreachable, but an operator on constants that doesn't fault; and what is told unreachable no run computes. Each loop of a path begins again at one point at most, and what is told of that is true of each turn.
pub record HoldsOfProgram (p : Program) (t : Told) : Type 0 where
  pub goes_on : IsNeverStuck p
  pub visits : (visits : List Visit) (end : Option Failure) → ProgramVisits p visits end →
      All (IsToldVisit t.graph t.states) visits
  pub faults : (visits : List Visit) (end : Option Failure) → ProgramVisits p visits end → IsToldEnd t end
  pub lines : NoneTwice t.accesses
  pub computed : OperationsAreReached p t (IsOnConstants p)
  pub unreachable : UnreachableIsNotComputed p t
  pub turns : TurnsAreTold p t
  pub one_point : (path : ℕ) → BeginsAtOne (t.turns path)
