-- The certificate of a text, or why there is none.
use Rattle.std.specs.Prelude.{◌≡◌, ◌⊎◌, ℕ, ◌<◌, ◌≤◌, false, List, length}
use Rattle.pk_graph.specs.Graphs.{GraphOf}
use Rattle.pk_state.specs.Facts.{Stated}
use Rattle.pk_phases.specs.declared.equations.Cell.{Cell}
use Rattle.pk_analysis.specs.declared.analysis.Options.{Options}
use Rattle.pk_solver.specs.Solved.{AreRawCells}
use Rattle.pk_status.specs.declared.status.Status.{Status}
use Rattle.pk_status.specs.declared.status.Status.TheVariants.{CertLimit}
use Rattle.pk_text_graph.specs.Graphs.{HasGraph}
use Rattle.pk_cert_report.specs.Causes.{IsUnanalysed}
use Rattle.pk_cert_cells.specs.Cells.{head_of, cells_text, most_bytes}

-- what the iteration over a text's graph, with one octagon, leaves at its points, as a certificate
pub record IsCertificateOf (text entry : List ℕ) (o : Options) (most : ℕ) (bytes : List ℕ) : Type 0 where
  pub one_octagon : o.packs ≡ false
  pub graph : GraphOf
  pub has_graph : HasGraph text entry graph
  pub cells : List (Cell Stated)
  pub are : AreRawCells graph o most cells
  pub told : bytes ≡ cells_text graph (head_of text o.oct entry) cells

-- it isn't too long
pub record IsCertified (text entry : List ℕ) (o : Options) (most : ℕ) (bytes : List ℕ) : Type 0 where
  pub certificate : IsCertificateOf text entry o most bytes
  pub few : length bytes ≤ most_bytes

-- it would be
pub record IsOverlong (text entry : List ℕ) (o : Options) (most : ℕ) : Type 0 where
  pub bytes : List ℕ
  pub certificate : IsCertificateOf text entry o most bytes
  pub many : most_bytes < length bytes

-- ---- without a certificate

-- or that its certificate would be too long
abbrev pub IsUncertified : (text entry : List ℕ) → Options → (most : ℕ) → Status → Type 0
IsUncertified text entry o most s =
    IsUnanalysed text entry o most s ⊎ (IsOverlong text entry o most × (s ≡ CertLimit))
