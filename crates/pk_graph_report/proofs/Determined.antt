-- A graph has one report, one summary and one order.
use Rattle.std.specs.Prelude.{ℕ, List}
use Rattle.std.proofs.Common.{sym, ap, ◌∙◌}
use Rattle.pk_graph.specs.Accesses.{accesses_of}
use Rattle.pk_state.specs.Facts.{Stated}
use Rattle.pk_order.specs.Ordered.{heads_of}
use Rattle.pk_peak.specs.Texts.{OrderLinesAreDetermined}
use Rattle.pk_analysis.specs.Digraphs.{digraph_of}
use Rattle.pk_report.specs.Reports.{report_text, summary_text, unknown_in}
use Rattle.pk_solver.specs.Solved.{StatesAreDetermined}
use Rattle.pk_graph_report.specs.Reported.{verdicts_of, OneReport}

pub one_report : StatesAreDetermined → OrderLinesAreDetermined → OneReport
one_report result law = record {
  reports = λ g o most all m n a b x y.
      let states = result.states g o most x.plan y.plan x.states y.states x.are_states y.are_states in
      let elements = result.elements g o most x.plan y.plan x.states y.states x.are_states y.are_states in
      let heads = result.heads g o most x.plan y.plan x.states y.states x.are_states y.are_states in (
        x.counted ∙ ap (λ (s : List Stated). unknown_in (verdicts_of g s)) states ∙ sym y.counted,
        x.told
            ∙ (ap (λ (hs : List ℕ). report_text all g hs x.plan.elements x.states (accesses_of g) (verdicts_of g x.states)) heads
            ∙ ap (λ (k : ℕ). report_text all g (heads_of y.plan) k x.states (accesses_of g) (verdicts_of g x.states)) elements
            ∙ ap (λ (s : List Stated). report_text all g (heads_of y.plan) y.plan.elements s (accesses_of g) (verdicts_of g s)) states)
            ∙ sym y.told,
      );
  summaries = λ g o most seed size bytes m n a b x y.
      let states = result.states g o most x.plan y.plan x.states y.states x.are_states y.are_states in
      let elements = result.elements g o most x.plan y.plan x.states y.states x.are_states y.are_states in (
        x.counted ∙ ap (λ (s : List Stated). unknown_in (verdicts_of g s)) states ∙ sym y.counted,
        x.told
            ∙ (ap (λ (k : ℕ). summary_text seed size bytes g k (verdicts_of g x.states)) elements
            ∙ ap (λ (s : List Stated). summary_text seed size bytes g y.plan.elements (verdicts_of g s)) states)
            ∙ sym y.told,
      );
  orders = λ g with_peak a b x y.
      x.told ∙ law (digraph_of g) x.plan y.plan x.order y.order with_peak x.ordered y.ordered ∙ sym y.told;
  within = result.within;
  few_packs = result.few_packs;
}
