-- The certificate of a text is checked well.
use Rattle.std.specs.Prelude.{◌≡◌, ℕ, ◌<◌, ◌≤◌, ◌^◌, Bool, false, if◌then◌else◌, List, [], ◌∷◌, ◌++◌, length, map, drop, take}
use Rattle.std.specs.List.{flat_map, zip, range_with_len}
use Rattle.std.proofs.Common.{arith, refl, sym, ap, subst, ◌∙◌, append_assoc}
use Rattle.std.proofs.Math.Seq.{drop-append_seam}
use Rattle.pk_graph.specs.declared.verdicts.Verdict.{Verdict}
use Rattle.pk_graph.specs.Accesses.{accesses_of}
use Rattle.pk_graph.specs.Graphs.{GraphOf, kinds_of}
use Rattle.pk_graph.specs.OctagonVariables.{octagon_variables_of}
use Rattle.pk_graph.specs.WellMade.{IsGraph}
use Rattle.pk_state.specs.Layouts.{Layout}
use Rattle.pk_state.specs.Facts.{Stated}
use Rattle.pk_transfer.specs.Graphs.{layout_of, layout_over}
use Rattle.pk_plan.specs.Plans.{PlanView}
use Rattle.pk_order.specs.Ordered.{heads_of}
use Rattle.pk_phases.specs.declared.equations.Cell.{Cell}
use Rattle.pk_analysis.specs.declared.analysis.Options.{Options}
use Rattle.pk_packs.specs.Packs.{packs_of}
use Rattle.pk_analysis.specs.Flows.{reduced_over}
use Rattle.pk_analysis.specs.Layouts.{layout_for}
use Rattle.pk_solver.specs.Solved.{AreRawCells, RawCellsAreDetermined}
use Rattle.pk_report.specs.Reports.{access_line, first_line, last_line, told_lines, unknown_in, valid_line}
use Rattle.pk_graph_report.specs.Reported.{IsReport, verdicts_of}
use Rattle.pk_text_graph.specs.Graphs.{GraphsAreWellMade}
use Rattle.pk_unit_texts.specs.Laws.{EntriesAreNames}
use Rattle.pk_cert.specs.Rows.{lines_text}
use Rattle.pk_cert.specs.Heads.{HeadOf, IsHead, head_text}
use Rattle.pk_cert.specs.Pieces.{BeginsWith}
use Rattle.pk_cert_states.specs.Lines.{line_of}
use Rattle.pk_cert_cells.specs.Cells.{facts_in, head_of, state_in}
use Rattle.pk_cert_cells.specs.Reading.{cell_of}
use Rattle.pk_cert_laws.specs.Checks.{ChecksWell, ResultsCheckWell}
use Rattle.pk_cert_report.specs.Checked.{reduced_states}
use Rattle.pk_text_report.specs.Answers.{certified_options}
use Rattle.pk_answer_laws.specs.Certificates.{CertificatesAreChecked, EndsSo, verdict_lines}

-- what is read of a cell, reduced, is the cell, reduced
reduced_again : (l : Layout) (cells : List (Cell Stated)) → map (reduced_over l) (map (cell_of l) (map (λ (c : Cell Stated). (state_in l c).facts) cells)) ≡ map (reduced_over l) cells
reduced_again l [] = refl
reduced_again l (c ∷ cells) = ap (λ (ss : List Stated). reduced_over l c ∷ ss) (reduced_again l cells)

few : (n : ℕ) → n ≤ 64 → n < 2 ^ 31
few n h = omega (arith, h)

-- bytes begin with the head that stands first
begins_with : (h : HeadOf) (bytes rest : List ℕ) → IsHead h → bytes ≡ head_text h ++ rest → BeginsWith bytes h
begins_with h bytes rest is e = record {
  is = is;
  len = length (head_text h);
  first = record { size = refl; told = e ∙ ap (λ (x : List ℕ). head_text h ++ x) (sym (drop-append_seam (head_text h) rest) ∙ ap (drop (length (head_text h))) (sym e)) };
}

-- what is left of a run checks well
checks_well : ResultsCheckWell → (g : GraphOf) (o : Options) (most : ℕ) (cells : List (Cell Stated)) → IsGraph g → o.oct < 2 ^ 31 → o.packs ≡ false → AreRawCells g o most cells → ChecksWell g o.oct (facts_in (layout_of g o.oct) (length g.points) cells)
checks_well law g o most cells made small one are =
    subst (λ (cs : List (Cell Stated)). ChecksWell g o.oct (facts_in (layout_of g o.oct) (length g.points) cs)) (sym are.cells_are)
    (law g o are.plan are.order are.flow most are.outcome (record { graph = made; oct = small; analysis = are.system.analysis; ordered = are.system.ordered; result = are.result }) one)

with_one : (g : GraphOf) (p : PlanView) (o : Options) → o.packs ≡ false → layout_for g p o ≡ layout_of g o.oct
with_one g p o one = ap (λ (b : Bool). layout_over g (if b then packs_of g p o.oct else octagon_variables_of g o.oct ∷ [])) one

-- the last lines of a report
ends_so : RawCellsAreDetermined → (g : GraphOf) (o : Options) (most : ℕ) (cells : List (Cell Stated)) → o.packs ≡ false → AreRawCells g o most cells → (all : Bool) (number : ℕ) (report : List ℕ) → IsReport g o most all number report
    → let vs = verdicts_of g (map (reduced_over (layout_of g o.oct)) (take (length g.points) cells)) in EndsSo g vs (unknown_in vs) number report
ends_so raw g o most cells one are all number report r =
    let same = raw.states g o most r.plan cells r.states are r.are_states ∙ ap (λ (l : Layout). map (reduced_over l) (take (length g.points) cells)) (with_one g r.plan o one) in
    let front = first_line g r.plan.elements ++ flat_map (told_lines all g (heads_of r.plan) r.states) (range_with_len 0 (length g.points)) in
    let vs = verdicts_of g (map (reduced_over (layout_of g o.oct)) (take (length g.points) cells)) in
    record {
      count = r.counted ∙ ap (λ (ss : List Stated). unknown_in (verdicts_of g ss)) same;
      before = front;
      ends = r.told
          ∙ append_assoc front (flat_map (access_line g.paths) (zip (accesses_of g) (verdicts_of g r.states))) (last_line (verdicts_of g r.states))
          ∙ ap (λ (ss : List Stated). front ++ verdict_lines g (verdicts_of g ss)) same;
    }

pub certificates_checked : ResultsCheckWell → RawCellsAreDetermined → GraphsAreWellMade → EntriesAreNames → CertificatesAreChecked
certificates_checked law raw made names text o bytes range reply =
    let short = reply.0 in
    let certified = reply.1.0 in
    let x = certified.certificate in
    let g = x.graph in
    let h = head_of text o.oct o.entry in
    let l = layout_of g o.oct in
    let known = facts_in l (length g.points) x.cells in
    let well = checks_well law g (certified_options o) o.max_runs x.cells (made text o.entry g x.has_graph) (few o.oct range.4) refl x.are in
    let is : IsHead h = record { few = short; oct = range.4; entry = names text o.entry x.has_graph.unit x.has_graph.paths x.has_graph.called } in
    let begins = begins_with h bytes (lines_text (map (line_of (kinds_of g)) known)) is x.told in
    let vs = verdicts_of g (map (reduced_over l) (take (length g.points) x.cells)) in
    let same : vs ≡ verdicts_of g (reduced_states l (map (cell_of l) known)) = ap (verdicts_of g) (sym (reduced_again l (take (length g.points) x.cells))) in
    record {
      graph = g;
      has_graph = x.has_graph;
      verdicts = vs;
      unknown = unknown_in vs;
      reply = (
        certified.few,
        record {
          head = h;
          graph = g;
          of_graph = record { begins = begins; has_graph = x.has_graph };
          cells = map (cell_of l) known;
          read = record { known = known; each = well.facts.each; facts = well.facts.facts; cells_are = refl; told = x.told };
          solved = well.solved;
          counted = ap unknown_in same;
          told_is = sym (append_assoc (valid_line g) (flat_map (access_line g.paths) (zip (accesses_of g) vs)) (last_line vs))
              ∙ ap (λ (us : List Verdict). valid_line g ++ flat_map (access_line g.paths) (zip (accesses_of g) us) ++ last_line us) same;
        },
      );
      reports = ends_so raw g (certified_options o) o.max_runs x.cells refl x.are;
    }
