-- The graph of a text.
use Rattle.std.specs.Prelude.{◌≡◌, ◌≢◌, ◌⊎◌, ℕ, ◌<◌, ◌≤◌, List, length}
use Rattle.pk_ctypes.specs.declared.words.Quantity.TheVariants.{Points}
use Rattle.pk_typed.specs.Trees.{UnitTree}
use Rattle.pk_calls.specs.declared.listings.CallPath.{CallPath}
use Rattle.pk_front.specs.declared.failures.TextError.{TextError}
use Rattle.pk_front.specs.declared.failures.TextError.TheVariants.{Limit, Memory}
use Rattle.pk_front.specs.Texts.{HasPaths, IsLeft}
use Rattle.pk_graph.specs.Graphs.{GraphOf}
use Rattle.pk_graph.specs.WellMade.{IsGraph}
use Rattle.pk_lower.specs.Answers.{point_limit}
use Rattle.pk_lower.specs.Graphs.{graph_of}
use Rattle.pk_lower.specs.Parts.{point_count}

-- the graph of a text whose runs begin with this function
pub record HasGraph (text entry : List ℕ) (g : GraphOf) : Type 0 where
  pub unit : UnitTree
  pub paths : List CallPath
  pub called : HasPaths text entry unit paths
  pub few : point_count unit paths ≤ point_limit
  pub graph : g ≡ graph_of unit paths

-- it would have too many points
pub record HasManyPoints (text entry : List ℕ) : Type 0 where
  pub unit : UnitTree
  pub paths : List CallPath
  pub called : HasPaths text entry unit paths
  pub many : point_limit < point_count unit paths

-- why a text has no graph: it is refused or passes a limit before its call paths are known, or has too many points
abbrev pub HasNoGraph : (text entry : List ℕ) → TextError → Type 0
HasNoGraph text entry why = IsLeft text entry why ⊎ (HasManyPoints text entry × (why ≡ Limit Points point_limit))

-- ---- laws

-- A text and a function have one graph at most, or one cause why there is none, and not both. Want of memory says nothing of the text.
pub record GraphIsDetermined : Type 0 where
  pub graph : (text entry : List ℕ) (g h : GraphOf) → HasGraph text entry g → HasGraph text entry h → g ≡ h
  pub none : (text entry : List ℕ) (why other : TextError) → why ≢ Memory → other ≢ Memory →
      HasNoGraph text entry why → HasNoGraph text entry other → why ≡ other
  pub apart : (text entry : List ℕ) (g : GraphOf) (why : TextError) → why ≢ Memory →
      HasGraph text entry g → HasNoGraph text entry why → ⊥

-- it is well made
abbrev pub GraphsAreWellMade : Type 0
GraphsAreWellMade = (text entry : List ℕ) (g : GraphOf) → HasGraph text entry g → IsGraph g

-- and has so many points at most
abbrev pub GraphsAreFew : Type 0
GraphsAreFew = (text entry : List ℕ) (g : GraphOf) → HasGraph text entry g → length g.points ≤ point_limit
