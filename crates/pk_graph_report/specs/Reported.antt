-- What is told of a graph by the states of its points.
use Rattle.std.specs.Prelude.{◌≡◌, ℕ, Bool, List}
use Rattle.pk_graph.specs.Accesses.{accesses_of}
use Rattle.pk_graph.specs.Graphs.{GraphOf}
use Rattle.pk_state.specs.Facts.{Stated}
use Rattle.pk_plan.specs.Order.{Level}
use Rattle.pk_plan.specs.Plans.{PlanView}
use Rattle.pk_order.specs.Ordered.{IsOrdered, heads_of}
use Rattle.pk_peak.specs.Texts.{order_lines}
use Rattle.pk_analysis.specs.declared.analysis.Options.{Options}
use Rattle.pk_analysis.specs.Digraphs.{digraph_of}
use Rattle.pk_report.specs.Reports.{report_text, summary_text, unknown_in}
pub use Rattle.pk_pieces.specs.Joined.{verdict_at, verdicts_of}
use Rattle.pk_analysis_laws.specs.Systems.{HasManyPacks, IsOver}
use Rattle.pk_solver.specs.Solved.{AreStates}

-- the report, and its number of unknown verdicts
pub record IsReport (g : GraphOf) (o : Options) (most : ℕ) (all : Bool) (unknown : ℕ) (bytes : List ℕ) : Type 0 where
  pub plan : PlanView
  pub states : List Stated
  pub are_states : AreStates g o most plan states
  pub counted : unknown ≡ unknown_in (verdicts_of g states)
  pub told : bytes ≡ report_text all g (heads_of plan) plan.elements states (accesses_of g) (verdicts_of g states)

-- the summary of a made text of this length
pub record IsSummary (g : GraphOf) (o : Options) (most seed size text_length unknown : ℕ)
    (bytes : List ℕ) : Type 0 where
  pub plan : PlanView
  pub states : List Stated
  pub are_states : AreStates g o most plan states
  pub counted : unknown ≡ unknown_in (verdicts_of g states)
  pub told : bytes ≡ summary_text seed size text_length g plan.elements (verdicts_of g states)

-- the linear order of the graph's plan, and its peak where it is asked for, without the last line's end
pub record IsOrderText (g : GraphOf) (with_peak : Bool) (bytes : List ℕ) : Type 0 where
  pub plan : PlanView
  pub order : Level
  pub ordered : IsOrdered (digraph_of g) plan order
  pub told : bytes ≡ order_lines plan order with_peak

-- A graph has at most one report, summary and order, and a report only where no element is run too often and there aren't too many packs.
pub record OneReport : Type 0 where
  pub reports : (g : GraphOf) (o : Options) (most : ℕ) (all : Bool) (m n : ℕ) (a b : List ℕ) →
      IsReport g o most all m a → IsReport g o most all n b → (m ≡ n) × (a ≡ b)
  pub summaries : (g : GraphOf) (o : Options) (most seed size text_length m n : ℕ) (a b : List ℕ) →
      IsSummary g o most seed size text_length m a → IsSummary g o most seed size text_length n b → (m ≡ n) × (a ≡ b)
  pub orders : (g : GraphOf) (with_peak : Bool) (a b : List ℕ) → IsOrderText g with_peak a →
      IsOrderText g with_peak b → a ≡ b
  pub within : (g : GraphOf) (o : Options) (most : ℕ) (p : PlanView) (states : List Stated) →
      AreStates g o most p states → IsOver g o most → ⊥
  pub few_packs : (g : GraphOf) (o : Options) (most : ℕ) (p : PlanView) (states : List Stated) →
      AreStates g o most p states → HasManyPacks g o → ⊥
