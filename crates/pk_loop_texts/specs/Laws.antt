-- No two loops of a body in a text share a place, so that each loop of a path begins again at one point of the graph at most.
use Rattle.std.specs.Prelude.{◌≡◌, ℕ, ◌≤◌, List, All, IfSome, Contains}
use Rattle.pk_ctypes.specs.declared.places.Pos.{Pos}
use Rattle.pk_typed.specs.Trees.{BodyTree, FunctionTree, UnitTree}
use Rattle.pk_calls.specs.declared.listings.CallPath.{CallPath}
use Rattle.pk_front.specs.Texts.{HasUnit}
use Rattle.pk_graph.specs.Graphs.{GraphOf}
use Rattle.pk_text_graph.specs.Graphs.{HasGraph}
use Rattle.pk_visits.specs.Turns.{TurnPoint, turning}
use Rattle.pk_visits.specs.Turning.{graph_turns}
use Rattle.pk_access_laws.specs.Laws.{one_at}
use Rattle.pk_loop_laws.specs.Loops.{loops_in_items}

-- no two loops of a body share a place
abbrev pub HasLoopsApart : BodyTree → Type 0
HasLoopsApart b = (at : Pos) → loops_in_items (one_at at) b.items ≤ 1

abbrev pub LoopsAreApart : UnitTree → Type 0
LoopsAreApart u = All (λ (f : FunctionTree). IfSome f.body HasLoopsApart) u.functions

-- No two loops of a text's typed unit do.
abbrev pub LoopsOfTextsAreApart : Type 0
LoopsOfTextsAreApart = (text : List ℕ) (u : UnitTree) → HasUnit text u → LoopsAreApart u

-- a loop begins again at one point at most
abbrev pub BeginsAtOne : List TurnPoint → Type 0
BeginsAtOne ts = (at : Pos) (m n : ℕ) → Contains ts (turning at m) → Contains ts (turning at n) → m ≡ n

-- Where no two loops of a body share a place, each loop of a path begins again at one point of the unit's graph at most.
abbrev pub TurnsAreApart : Type 0
TurnsAreApart =
    (u : UnitTree) (paths : List CallPath) → LoopsAreApart u → (path : ℕ) → BeginsAtOne (graph_turns u paths path)

-- So does each loop of a path of a text's graph.
abbrev pub TurnsOfTextsAreApart : Type 0
TurnsOfTextsAreApart =
    (text entry : List ℕ) (g : GraphOf) (h : HasGraph text entry g) (path : ℕ) →
    BeginsAtOne (graph_turns h.unit h.paths path)
