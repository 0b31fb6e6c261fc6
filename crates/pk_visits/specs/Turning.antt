-- Where a run of a program begins a turn of a loop, a run of its graph is where that loop begins again.
use Rattle.std.specs.Prelude.{◌≡◌, ℕ, ◌≤◌, List, map, Contains, Some}
use Rattle.pk_typed.specs.Trees.{UnitTree}
use Rattle.pk_calls.specs.declared.listings.CallPath.{CallPath}
use Rattle.pk_calls.specs.Answers.{HasPaths}
use Rattle.pk_graph.specs.Graphs.{GraphOf}
use Rattle.pk_graph.specs.Steps.{Numbers}
use Rattle.pk_graph.specs.Stores.{Stored}
use Rattle.pk_draft.specs.Drafts.{by_number}
use Rattle.pk_number.specs.Preorders.{place_among}
use Rattle.pk_number.specs.Numbering.{reached}
use Rattle.pk_lower.specs.Answers.{point_limit}
use Rattle.pk_lower.specs.Graphs.{graph_of}
use Rattle.pk_lower.specs.Parts.{point_count, program_draft}
use Rattle.pk_welltyped.specs.WellTyped.{IsUnit}
use Rattle.pk_welltyped.specs.Marks.{AreMarked}
use Rattle.pk_meaning.specs.Programs.{Program}
use Rattle.pk_meaning.specs.Work.{Place, Loop, Ahead, Turn}
use Rattle.pk_meaning.specs.Steps.{Config}
use Rattle.pk_meaning.specs.Runs.{Visit, visit_of, start, Runs}
use Rattle.pk_visits.specs.GraphVisits.{Begins, GraphRuns, visit_at}
use Rattle.pk_visits.specs.Turns.{TurnPoint, turning, program_turns}

-- the loops of a path with the points of the unit's graph at which they begin again
abbrev pub graph_turns : UnitTree → List CallPath → (path : ℕ) → List TurnPoint
graph_turns u paths k =
    let found = reached (program_draft by_number u paths).edges in
    map (λ (t : TurnPoint). turning t.at (place_among found t.point)) (program_turns by_number u paths k)

-- A run of the graph, with these visits behind its first one, is at the point when a run of the program stands so.
pub record IsTurnAt (p : Program) (g : GraphOf) (visits : List Visit) (last : Config) (point : ℕ) : Type 0 where
  pub first : Stored
  pub begins : Begins g first
  pub store : Stored
  pub runs : GraphRuns g 0 first visits point store
  pub visit : visit_at g point store ≡ visit_of p last

-- wherever a run begins a turn of a loop, at one of the points that the loop's path has for its place
abbrev pub TurnsAreAt : Program → GraphOf → (turns : ℕ → List TurnPoint) → Type 0
TurnsAreAt p g turns =
    (choice : Numbers) (first last : Config) (visits : List Visit) (here behind : Place) (loop : Loop) (a : Ahead) →
    start p choice ≡ Some first → Runs p first visits last → last.work ≡ Turn here loop behind a →
    (point : ℕ) × Contains (turns last.path) (turning here.at point) × IsTurnAt p g visits last point

-- Every typed unit with its call paths, and the graph that the lowering makes of it.
abbrev pub TurnsAreFollowed : Type 0
TurnsAreFollowed =
    (u : UnitTree) (name : List ℕ) (paths : List CallPath) → IsUnit u → AreMarked u → HasPaths u name paths →
    point_count u paths ≤ point_limit
    → TurnsAreAt (record { unit = u; paths = paths }) (graph_of u paths) (graph_turns u paths)
