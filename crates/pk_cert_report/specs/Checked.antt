-- What a check of bytes tells, or why it tells nothing. Nothing is asked of where the bytes come from.
use Rattle.std.specs.Prelude.{◌≡◌, ◌⊎◌, ℕ, List, map, None, Some}
use Rattle.pk_graph.specs.Accesses.{accesses_of}
use Rattle.pk_graph.specs.Graphs.{GraphOf}
use Rattle.pk_state.specs.Layouts.{Layout}
use Rattle.pk_state.specs.Facts.{Stated}
use Rattle.pk_transfer.specs.Graphs.{layout_of}
use Rattle.pk_phases.specs.declared.equations.Cell.{Cell}
use Rattle.pk_analysis.specs.Flows.{reduced_over}
use Rattle.pk_report.specs.Reports.{checked_text, unknown_in}
use Rattle.pk_graph_report.specs.Reported.{verdicts_of}
use Rattle.pk_status.specs.declared.status.Status.{Status}
use Rattle.pk_status.specs.declared.status.Status.TheVariants.{CertByte, CertState, CertFails, Memory}
use Rattle.pk_text_graph.specs.Graphs.{HasGraph}
use Rattle.pk_cert.specs.Beginnings.{IsFirstWrong}
use Rattle.pk_cert.specs.Heads.{HeadOf, HasHead}
use Rattle.pk_cert.specs.Pieces.{BeginsWith}
use Rattle.pk_cert_cells.specs.declared.failures.Unfit.{Unfit}
use Rattle.pk_cert_cells.specs.declared.failures.Unfit.TheVariants as unfit
use Rattle.pk_cert_cells.specs.Reading.{AreReadCells, IsUnfit}
use Rattle.pk_cert_check.specs.Checked.{IsChecked}
use Rattle.pk_cert_report.specs.Causes.{IsUngraphed}

-- bytes begin with this head, and the text in it has this graph
pub record HasCertifiedGraph (bytes : List ℕ) (h : HeadOf) (g : GraphOf) : Type 0 where
  pub begins : BeginsWith bytes h
  pub has_graph : HasGraph h.text h.entry g

-- what cells know of the points, reduced
abbrev pub reduced_states : Layout → List (Cell Stated) → List Stated
reduced_states l cells = map (reduced_over l) cells

-- The bytes are a certificate whose cells solve the equations of its text's graph. Told are the verdicts by these cells, reduced.
pub record IsValid (bytes : List ℕ) (unknown : ℕ) (told : List ℕ) : Type 0 where
  pub head : HeadOf
  pub graph : GraphOf
  pub of_graph : HasCertifiedGraph bytes head graph
  pub cells : List (Cell Stated)
  pub read : AreReadCells graph head bytes cells
  pub solved : IsChecked graph (layout_of graph head.oct) cells None
  pub counted : unknown ≡ unknown_in (verdicts_of graph (reduced_states (layout_of graph head.oct) cells))
  pub told_is : told ≡ checked_text graph (accesses_of graph)
      (verdicts_of graph (reduced_states (layout_of graph head.oct) cells))

-- ---- without verdicts

abbrev pub status_of_unfit : Unfit → Status
status_of_unfit (unfit.Byte n) = CertByte n
status_of_unfit (unfit.State v) = CertState v
status_of_unfit unfit.Memory = Memory

-- cells were read, and this is the first point whose equation they don't solve
pub record FailsAt (bytes : List ℕ) (h : HeadOf) (g : GraphOf) (v : ℕ) : Type 0 where
  pub cells : List (Cell Stated)
  pub read : AreReadCells g h bytes cells
  pub fails : IsChecked g (layout_of g h.oct) cells (Some v)

-- no cells are read behind the head, or they fail
abbrev pub IsUnproved : List ℕ → HeadOf → GraphOf → Status → Type 0
IsUnproved bytes h g s =
    ((why : Unfit) × IsUnfit g h bytes why × (s ≡ status_of_unfit why))
    ⊎ ((v : ℕ) × FailsAt bytes h g v × (s ≡ CertFails v))

-- The bytes begin with no head, or the text in it has no graph, or what stands behind it proves nothing, or memory is wanting. The status says so.
abbrev pub IsInvalid : List ℕ → Status → Type 0
IsInvalid bytes s =
    ((n : ℕ) × IsFirstWrong HasHead bytes n × (s ≡ CertByte n))
    ⊎ (((h : HeadOf) × BeginsWith bytes h × IsUngraphed h.text h.entry s)
    ⊎ ((h : HeadOf) × (g : GraphOf) × HasCertifiedGraph bytes h g × IsUnproved bytes h g s))
