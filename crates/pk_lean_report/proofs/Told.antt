-- What is kept of the items of a graph, told of the graph.
use Rattle.std.specs.Prelude.{◌≡◌, ℕ, Bool, List, slice_index_or}
use Rattle.std.proofs.Common.{sym, ap, subst, ◌∙◌}
use Rattle.pk_plan.specs.Order.{Level}
use Rattle.pk_plan.specs.Plans.{PlanView}
use Rattle.pk_items.specs.Laws.{EveryTopIsOutermost}
use Rattle.pk_graph.specs.Graphs.{GraphOf}
use Rattle.pk_graph.specs.Shown.{graph_view}
use Rattle.pk_graph.specs.WellMade.{IsGraph}
use Rattle.pk_graph.specs.Accesses.{accesses_of}
use Rattle.pk_state.specs.Facts.{Stated}
use Rattle.pk_phases.specs.declared.equations.Cell.{Cell}
use Rattle.pk_phases.specs.declared.equations.Cell.TheVariants.{Value}
use Rattle.pk_analysis.specs.declared.analysis.Options.{Options}
use Rattle.pk_analysis.specs.Flows.{Flow}
use Rattle.pk_analysis_laws.specs.Systems.{IsSystem}
use Rattle.pk_order.specs.Ordered.{heads_of}
use Rattle.pk_report.specs.Reports.{no_state, report_text, unknown_in}
use Rattle.pk_pieces.specs.Joined.{verdicts_of}
use Rattle.pk_pieces.specs.Pieces.{PieceOf}
use Rattle.pk_parts.specs.Kept.{ReportingOf, graph_in, states_by, AreKept}
use Rattle.pk_graph_report.specs.Reported.{IsReport}
use Rattle.pk_lean_report.specs.Items.{AreOfItems}
use Rattle.pk_lean_report.proofs.Joined.{items, are_kept, is_report}

abbrev pub reporting : Flow → Bool → List ℕ → ReportingOf
reporting a all heads = record { flow = a; all = all; heads = heads }

pub made_so : {all : Bool} {heads : List ℕ} (a : Flow) (r : ReportingOf) → r ≡ reporting a all heads → IsGraph (graph_view a.graph) → IsGraph (graph_in r)
made_so a r is made = subst (λ (q : ReportingOf). IsGraph (graph_in q)) (sym is) made

pub system_so : {all : Bool} {heads : List ℕ} (o : Options) (p : PlanView) (a : Flow) (r : ReportingOf) → r ≡ reporting a all heads → ((order : Level) × IsSystem (graph_view a.graph) o p order a) → (order : Level) × IsSystem (graph_in r) o p order r.flow
system_so o p a r is system = subst (λ (q : ReportingOf). (order : Level) × IsSystem (graph_in q) o p order q.flow) (sym is) system

pub heads_so : {all : Bool} {heads : List ℕ} (p : PlanView) (a : Flow) (r : ReportingOf) → r ≡ reporting a all heads → heads ≡ heads_of p → r.heads ≡ heads_of p
heads_so p a r is headed = ap (λ (q : ReportingOf). q.heads) is ∙ headed

module _ (o : Options) (p : PlanView) (r : ReportingOf) (most : ℕ) (kept : List (List PieceOf)) (x : AreOfItems o p r most kept) (law : EveryTopIsOutermost) where
  abbrev pub cell : ℕ → Cell Stated
  cell v = slice_index_or x.outcome.cells v (Value no_state)

  pub kept_so : (cell : ℕ → Cell Stated) × (items : List (List ℕ)) × AreKept r cell items kept
  kept_so = (cell, items o p r most kept x law, are_kept o p r most kept x law)

  pub report_so : r.heads ≡ heads_of p → (elements : ℕ) → elements ≡ p.elements → (unknown : ℕ) (bytes : List ℕ)
      → ((cell : ℕ → Cell Stated) (items : List (List ℕ)) → AreKept r cell items kept → bytes ≡ report_text r.all (graph_in r) r.heads elements (states_by r cell) (accesses_of (graph_in r)) (verdicts_of (graph_in r) (states_by r cell)))
      → ((cell : ℕ → Cell Stated) (items : List (List ℕ)) → AreKept r cell items kept → unknown ≡ unknown_in (verdicts_of (graph_in r) (states_by r cell)))
      → IsReport (graph_in r) o most r.all unknown bytes
  report_so heads elements same unknown bytes told counted =
      let is = items o p r most kept x law in
      let are = are_kept o p r most kept x law in
      is_report o p r most kept x law unknown bytes heads
      (told cell is are ∙ ap (λ (n : ℕ). report_text r.all (graph_in r) r.heads n (states_by r cell) (accesses_of (graph_in r)) (verdicts_of (graph_in r) (states_by r cell))) same) (counted cell is are)

-- what is told of a graph is told of the graph that it is
pub told_so : {heads : List ℕ} (a : Flow) (all : Bool) (r : ReportingOf) → r ≡ reporting a all heads → (g : GraphOf) → graph_view a.graph ≡ g → (P : GraphOf → Bool → Type 0) → P (graph_in r) r.all → P g all
told_so a all r is g same P x = subst (λ (h : GraphOf). P h all) same (subst (λ (q : ReportingOf). P (graph_in q) q.all) is x)
