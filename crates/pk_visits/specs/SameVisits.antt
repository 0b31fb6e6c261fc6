-- A program and its graph have the same visits.
use Rattle.std.specs.Prelude.{◌≡◌, ℕ, ◌≤◌, ℤ, false, true, List, ◌∷◌, Contains, Option, Some, None, Ok}
use Rattle.pk_typed.specs.Trees.{UnitTree}
use Rattle.pk_calls.specs.declared.listings.CallPath.{CallPath}
use Rattle.pk_calls.specs.Answers.{HasPaths}
use Rattle.pk_graph.specs.Graphs.{EdgeOf, GraphOf, point_at}
use Rattle.pk_graph.specs.Steps as graph
use Rattle.pk_graph.specs.Steps.{Numbers, Failure, effect, tree_value, is_index}
use Rattle.pk_graph.specs.Trees.{InstrOf, Skip, Set, Havoc, Clear, Load, Store, Guard, Check}
use Rattle.pk_graph.specs.Stores.{Stored, storing}
use Rattle.pk_lower.specs.Parts.{point_count}
use Rattle.pk_welltyped.specs.WellTyped.{IsUnit}
use Rattle.pk_meaning.specs.Programs.{Program}
use Rattle.pk_meaning.specs.Runs.{Visit}
use Rattle.pk_meaning.specs.Endings.{ProgramVisits}
use Rattle.pk_visits.specs.GraphVisits.{Begins, visit_at, GraphRuns}
use Rattle.pk_welltyped.specs.Marks.{AreMarked}
use Rattle.pk_lower.specs.Answers.{point_limit}
use Rattle.pk_lower.specs.Graphs.{graph_of}

-- An index without a test of its own (of an item of a braced list, or of an element that was read with it before) lies below the array's length, if it has a value.
abbrev pub IsInside : InstrOf ℕ → Stored → Type 0
IsInside Skip s = Unit {0}
IsInside (Set x e) s = Unit {0}
IsInside (Havoc x t n) s = Unit {0}
IsInside (Clear a) s = Unit {0}
IsInside (Load x a at b i) s = b ≡ false → (z : ℤ) → tree_value storing i s ≡ Ok z → is_index a.length z ≡ true
IsInside (Store a at b i e) s = b ≡ false → (z : ℤ) → tree_value storing i s ≡ Ok z → is_index a.length z ≡ true
IsInside (Guard e b) s = Unit {0}
IsInside (Check at e) s = Unit {0}

-- some edge of the point fails, though not at an index without a test of its own
pub record FailsAt (g : GraphOf) (point : ℕ) (s : Stored) (f : Failure) : Type 0 where
  pub chosen : Numbers
  pub edge : EdgeOf
  pub there : Contains (point_at g point).edges edge
  pub fails : effect storing chosen edge.instr s ≡ graph.Faulted f
  pub inside : IsInside edge.instr s

abbrev pub EndsAt : GraphOf → ℕ → Stored → Option Failure → Type 0
EndsAt g p s None = Unit {0}
EndsAt g p s (Some f) = FailsAt g p s f

-- the visits of a run of a graph, and the failure at its end if there is one
pub record GraphVisits (g : GraphOf) (visits : List Visit) (end : Option Failure) : Type 0 where
  pub first : Stored
  pub point : ℕ
  pub last : Stored
  pub others : List Visit
  pub begins : Begins g first
  pub runs : GraphRuns g 0 first others point last
  pub visits_are : visits ≡ visit_at g 0 first ∷ others
  pub ends : EndsAt g point last end

-- Temporaries, results and parameters that are made ready are dropped (they are no visits): each list of visits of a run of the program, with its failure, is that of a run of the graph, and the other way round.
pub record HaveSameVisits (p : Program) (g : GraphOf) : Type 0 where
  pub forward : (visits : List Visit) (end : Option Failure) → ProgramVisits p visits end → GraphVisits g visits end
  pub backward : (visits : List Visit) (end : Option Failure) → GraphVisits g visits end → ProgramVisits p visits end

-- Every typed unit with its call paths, and the graph that the lowering makes of it.
abbrev pub GraphsHaveProgramVisits : Type 0
GraphsHaveProgramVisits =
    (u : UnitTree) (name : List ℕ) (paths : List CallPath) → IsUnit u → AreMarked u → HasPaths u name paths →
    point_count u paths ≤ point_limit
    → HaveSameVisits (record { unit = u; paths = paths }) (graph_of u paths)

-- the first half of it alone
abbrev pub ProgramsAreFollowed : Type 0
ProgramsAreFollowed =
    (u : UnitTree) (name : List ℕ) (paths : List CallPath) → IsUnit u → AreMarked u → HasPaths u name paths →
    point_count u paths ≤ point_limit
    → (visits : List Visit) (end : Option Failure) → ProgramVisits (record { unit = u; paths = paths }) visits end →
    GraphVisits (graph_of u paths) visits end
