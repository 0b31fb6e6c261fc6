-- What is written of a graph's cells is read back, and bytes are read, and in one way.
use Rattle.std.specs.Prelude.{◌≡◌, ◌⊎◌, ◌≢◌, ℕ, ◌<◌, List, map, length, slice_index_or, Option, None}
use Rattle.pk_graph.specs.Graphs.{GraphOf}
use Rattle.pk_state.specs.Facts.{Facts, Stated, AreFactsIf}
use Rattle.pk_transfer.specs.Graphs.{layout_of}
use Rattle.pk_phases.specs.declared.equations.Cell.{Cell}
use Rattle.pk_cert.specs.Heads.{HeadOf, IsHead, head_text}
use Rattle.pk_cert.specs.Pieces.{AreFirst, BeginsWith}
use Rattle.pk_cert.specs.Certificates.{IsCertificate}
use Rattle.pk_cert_cells.specs.Cells.{certificate_of}
use Rattle.pk_cert_cells.specs.Reading.{cell_of, shape_in, AreReadCells, IsUnfit}
use Rattle.pk_cert_cells.specs.declared.failures.Unfit.{Unfit}
use Rattle.pk_cert_cells.specs.declared.failures.Unfit.TheVariants.{Memory}

-- facts of the graph's layout, for each of its points
pub record ArePointFacts (g : GraphOf) (oct : ℕ) (known : List (Option Facts)) : Type 0 where
  pub each : length known ≡ length g.points
  pub facts : (v : ℕ) → v < length g.points → AreFactsIf (layout_of g oct) (slice_index_or known v None)

-- The certificate of these facts is one; it begins with no other head, these cells are read of it and no others, and memory alone can be wanting.
pub record IsReadBack (g : GraphOf) (h : HeadOf) (known : List (Option Facts)) : Type 0 where
  pub certificate : IsCertificate (shape_in g h) (length g.points) h (certificate_of g h known)
  pub head : (k : HeadOf) (n : ℕ) → IsHead k → AreFirst (head_text k) (certificate_of g h known) n → k ≡ h
  pub cells : (cells : List (Cell Stated)) → AreReadCells g h (certificate_of g h known) cells →
      cells ≡ map (cell_of (layout_of g h.oct)) known
  pub fit : (e : Unfit) → IsUnfit g h (certificate_of g h known) e → e ≡ Memory

abbrev pub WrittenIsRead : Type 0
WrittenIsRead =
    (g : GraphOf) (h : HeadOf) (known : List (Option Facts)) → IsHead h → ArePointFacts g h.oct known →
    IsReadBack g h known

-- Bytes behind a head are the certificate of one list of cells, or have one first wrong byte, or one first point of no state.
pub record IsOneReading (g : GraphOf) (h : HeadOf) (bytes : List ℕ) : Type 0 where
  pub cells : (a b : List (Cell Stated)) → AreReadCells g h bytes a → AreReadCells g h bytes b → a ≡ b
  pub fit : (cells : List (Cell Stated)) (e : Unfit) → AreReadCells g h bytes cells → IsUnfit g h bytes e → e ≡ Memory
  pub unfit : (d e : Unfit) → IsUnfit g h bytes d → IsUnfit g h bytes e → (d ≡ Memory) ⊎ ((e ≡ Memory) ⊎ (d ≡ e))

abbrev pub OneReading : Type 0
OneReading = (g : GraphOf) (h : HeadOf) (bytes : List ℕ) → IsHead h → IsOneReading g h bytes

-- Bytes that begin with a head are the certificate of cells, or have a first wrong byte or a first point of no state.
abbrev pub EveryReadingEnds : Type 0
EveryReadingEnds =
    (g : GraphOf) (h : HeadOf) (bytes : List ℕ) → BeginsWith bytes h →
    ((cells : List (Cell Stated)) × AreReadCells g h bytes cells)
    ⊎ ((u : Unfit) × (u ≢ Memory) × IsUnfit g h bytes u)
