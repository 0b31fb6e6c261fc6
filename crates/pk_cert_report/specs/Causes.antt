-- Why a text has no graph, or why its graph isn't analysed.
use Rattle.std.specs.Prelude.{◌≡◌, ◌≢◌, ◌⊎◌, ℕ, List}
use Rattle.pk_ctypes.specs.declared.words.Quantity.TheVariants.{Packs}
use Rattle.pk_front.specs.declared.failures.TextError.{TextError}
use Rattle.pk_graph.specs.Graphs.{GraphOf}
use Rattle.pk_analysis.specs.declared.analysis.Options.{Options}
use Rattle.pk_packs.specs.Packs.{pack_limit}
use Rattle.pk_analysis_laws.specs.Systems.{HasManyPacks, IsOver}
use Rattle.pk_solver.specs.declared.solving.SolverError.{SolverError}
use Rattle.pk_solver.specs.declared.solving.SolverError.TheVariants as causes
use Rattle.pk_status.specs.declared.status.Status.{Status}
use Rattle.pk_status.specs.declared.status.Status.TheVariants.{Limit, RunLimit, Memory}
use Rattle.pk_status.specs.Statuses.{status_of}
use Rattle.pk_text_graph.specs.Graphs.{HasGraph, HasNoGraph}

-- states of the text's graph would have too many octagons
pub record HasTooManyPacks (text entry : List ℕ) (o : Options) : Type 0 where
  pub graph : GraphOf
  pub has_graph : HasGraph text entry graph
  pub many : HasManyPacks graph o

-- some element of the text's graph would be run too often
pub record IsTooLong (text entry : List ℕ) (o : Options) (most : ℕ) : Type 0 where
  pub graph : GraphOf
  pub has_graph : HasGraph text entry graph
  pub over : IsOver graph o most

-- the status says why the text has no graph, or that memory is wanting
abbrev pub IsUngraphed : (text entry : List ℕ) → Status → Type 0
IsUngraphed text entry s = (why : TextError) × HasNoGraph text entry why × (s ≡ status_of why)

-- or that there would be too many octagons, or that some element of its graph would be run too often
abbrev pub IsUnanalysed : (text entry : List ℕ) → Options → (most : ℕ) → Status → Type 0
IsUnanalysed text entry o most s =
    IsUngraphed text entry s
    ⊎ ((HasTooManyPacks text entry o × (s ≡ Limit Packs pack_limit))
    ⊎ (IsTooLong text entry o most × (s ≡ RunLimit most)))

-- how a command ends about a graph of which nothing is left
abbrev pub status_of_cause : (most : ℕ) → SolverError → Status
status_of_cause most causes.RunLimit = RunLimit most
status_of_cause most causes.PackLimit = Limit Packs pack_limit
status_of_cause most causes.Memory = Memory

-- ---- laws

-- A text that has no graph has one cause of it, and so has one that isn't analysed. Want of memory says nothing of the text.
pub record OneCause : Type 0 where
  pub ungraphed : (text entry : List ℕ) (s t : Status) → s ≢ Memory → t ≢ Memory → IsUngraphed text entry s →
      IsUngraphed text entry t → s ≡ t
  pub unanalysed : (text entry : List ℕ) (o : Options) (most : ℕ) (s t : Status) → s ≢ Memory → t ≢ Memory →
      IsUnanalysed text entry o most s → IsUnanalysed text entry o most t → s ≡ t
  pub graph : (text entry : List ℕ) (g : GraphOf) (s : Status) → s ≢ Memory → HasGraph text entry g →
      IsUngraphed text entry s → ⊥
