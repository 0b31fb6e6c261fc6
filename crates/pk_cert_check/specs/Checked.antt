-- Cells that are checked against the equations of a graph's points.
use Rattle.std.specs.Prelude.{◌≡◌, ℕ, ◌<◌, ◌≤◌, List, length, slice_index_or, Option, None, Some}
use Rattle.pk_graph.specs.Graphs.{GraphOf}
use Rattle.pk_state.specs.Layouts.{Layout}
use Rattle.pk_state.specs.Facts.{Facts, Stated, AreFactsIf}
use Rattle.pk_phases.specs.declared.equations.Cell.{Cell}
use Rattle.pk_phases.specs.declared.equations.Cell.TheVariants.{Value}
use Rattle.pk_phases.specs.declared.equations.Part.TheVariants.{Point}
use Rattle.pk_phases.specs.Equations.{value_of}
use Rattle.pk_analysis.specs.Flows.{Flow, stated}
use Rattle.pk_analysis.specs.Parts.{part_at}
use Rattle.pk_sound.specs.Families.{IsSolved, PassesAt, FailsFirstAt}

-- the cell of a point; nothing is known past the cells
abbrev pub cell_in : Layout → List (Cell Stated) → ℕ → Cell Stated
cell_in l cells v = slice_index_or cells v (Value (stated l None))

-- what cells say of the points
abbrev pub known_by : Layout → List (Cell Stated) → ℕ → Option Facts
known_by l cells v = (value_of (stated l None) (cell_in l cells v)).facts

-- a cell that holds a state over the layout
abbrev pub HoldsState : Layout → Cell Stated → Type 0
HoldsState l c = (f : Option Facts) × (c ≡ Value (stated l f))

-- there is such a cell for each of so many points
pub record HoldStates (l : Layout) (points : ℕ) (cells : List (Cell Stated)) : Type 0 where
  pub enough : points ≤ length cells
  pub each : (v : ℕ) → v < points → HoldsState l (cell_in l cells v)

-- the first point at which the cells don't solve its equation, or they solve all
abbrev pub IsChecked : GraphOf → Layout → List (Cell Stated) → Option ℕ → Type 0
IsChecked g l cells None = IsSolved g l (known_by l cells)
IsChecked g l cells (Some v) = FailsFirstAt g l (known_by l cells) v

-- ---- the points one behind the other

-- no element is a head or an exit
abbrev pub HasPointsAlone : Flow → Type 0
HasPointsAlone a = (e : ℕ) → part_at a.parts e ≡ Point

-- the test of the order passes at each point before this one, and there the cells hold facts
pub record HavePassed (g : GraphOf) (l : Layout) (cells : List (Cell Stated)) (v : ℕ) : Type 0 where
  pub passed : (u : ℕ) → u < v → PassesAt g l (known_by l cells) u
  pub facts : (u : ℕ) → u < v → AreFactsIf l (known_by l cells u)
