-- The cells of a certificate, as they are read.
use Rattle.std.specs.Prelude.{◌≡◌, ℕ, ◌<◌, ◌≤◌, List, [], ◌∷◌, ◌++◌, map, length, take, slice_index_or, Option, None}
use Rattle.pk_graph.specs.Kinds.{Kinds}
use Rattle.pk_graph.specs.Graphs.{GraphOf, kinds_of}
use Rattle.pk_state.specs.Layouts.{Layout}
use Rattle.pk_state.specs.Facts.{Facts, Stated, AreFactsIf}
use Rattle.pk_transfer.specs.Graphs.{layout_of}
use Rattle.pk_phases.specs.declared.equations.Cell.{Cell}
use Rattle.pk_phases.specs.declared.equations.Cell.TheVariants.{Value}
use Rattle.pk_cert.specs.declared.rows.Shape.{Shape}
use Rattle.pk_cert.specs.Beginnings.{IsFirstWrong}
use Rattle.pk_cert.specs.Rows.{Line, IsLine, line_text, AreLines, lines_text}
use Rattle.pk_cert.specs.Heads.{HeadOf}
use Rattle.pk_cert.specs.Pieces.{AreFirst}
use Rattle.pk_cert.specs.Certificates.{certificate_text, IsCertificate}
use Rattle.pk_cert_states.specs.Lines.{line_of, shape_of, IsState}
use Rattle.pk_cert_cells.specs.Cells.{certificate_of}
use Rattle.pk_cert_cells.specs.declared.failures.Unfit.{Unfit}
use Rattle.pk_cert_cells.specs.declared.failures.Unfit.TheVariants.{Byte, State, Memory}

-- the cell of a point where this is known
abbrev pub cell_of : Layout → Option Facts → Cell Stated
cell_of l f = Value (record { layout = l; facts = f })

-- the shape of the lines of a graph
abbrev pub shape_in : GraphOf → HeadOf → Shape
shape_in g h = shape_of (kinds_of g) (layout_of g h.oct)

-- The bytes are the certificate of these cells, one for each point, which hold states.
pub record AreReadCells (g : GraphOf) (h : HeadOf) (bytes : List ℕ) (cells : List (Cell Stated)) : Type 0 where
  pub known : List (Option Facts)
  pub each : length known ≡ length g.points
  pub facts : (v : ℕ) → v < length g.points → AreFactsIf (layout_of g h.oct) (slice_index_or known v None)
  pub cells_are : cells ≡ map (cell_of (layout_of g h.oct)) known
  pub told : bytes ≡ certificate_of g h known

-- the bytes are a certificate, and of its lines the one of this point is the first that is of no state
pub record IsStateless (g : GraphOf) (h : HeadOf) (bytes : List ℕ) (v : ℕ) : Type 0 where
  pub lines : List Line
  pub are : AreLines (shape_in g h) (length g.points) lines
  pub told : bytes ≡ certificate_text h lines
  pub point : v < length g.points
  pub before : (u : ℕ) → u < v → IsState (kinds_of g) (layout_of g h.oct) (slice_index_or lines u None)
  pub none : IsState (kinds_of g) (layout_of g h.oct) (slice_index_or lines v None) → ⊥

-- why no cells are read
abbrev pub IsUnfit : GraphOf → HeadOf → List ℕ → Unfit → Type 0
IsUnfit g h bytes (Byte n) = IsFirstWrong (IsCertificate (shape_in g h) (length g.points) h) bytes n
IsUnfit g h bytes (State v) = IsStateless g h bytes v
IsUnfit g h bytes Memory = Unit {0}

-- ---- line by line

-- these are the cells of the first lines that are of states: of all, or behind the last stands one that is of none
pub record AreCellsOf (ks : Kinds) (l : Layout) (lines : List Line) (cells : List (Cell Stated)) : Type 0 where
  pub known : List (Option Facts)
  pub facts : (v : ℕ) → v < length known → AreFactsIf l (slice_index_or known v None)
  pub cells_are : cells ≡ map (cell_of l) known
  pub told : take (length known) lines ≡ map (line_of ks) known
  pub few : length cells ≤ length lines
  pub next : length cells < length lines → IsState ks l (slice_index_or lines (length cells) None) → ⊥

-- the first n bytes are lines, and these the cells of those that are of states
pub record AreCellsRead (ks : Kinds) (l : Layout) (shape : Shape) (points : ℕ) (bytes : List ℕ)
    (cells : List (Cell Stated)) (n : ℕ) : Type 0 where
  pub lines : List Line
  pub are : AreLines shape points lines
  pub first : AreFirst (lines_text lines) bytes n
  pub cells_of : AreCellsOf ks l lines cells

-- The first n bytes are a line; where each of the k lines before it has a cell and it is of a state, its cell is added.
pub record IsNextRead (ks : Kinds) (l : Layout) (shape : Shape) (k : ℕ) (bytes : List ℕ) (old new : List (Cell Stated))
    (n : ℕ) : Type 0 where
  pub line : Line
  pub is : IsLine shape line
  pub first : AreFirst (line_text line) bytes n
  pub cells_of : (lines : List Line) → length lines ≡ k → AreCellsOf ks l lines old →
      AreCellsOf ks l (lines ++ line ∷ []) new
