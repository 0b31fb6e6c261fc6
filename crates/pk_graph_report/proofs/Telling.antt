-- The report, the summary and the check, of the pieces that they are made of.
use Rattle.std.specs.Prelude.{◌≡◌, ℕ, Bool, false, List, [], ◌∷◌, ◌++◌, length, map}
use Rattle.std.specs.List.{flat_map, range_with_len, zip}
use Rattle.std.proofs.Common.{refl, ap, ◌∙◌, append-nil}
use Rattle.std.proofs.lemmas.List.{length-map}
use Rattle.pk_plan.specs.Plans.{PlanView}
use Rattle.pk_graph.specs.declared.verdicts.Verdict.{Verdict}
use Rattle.pk_graph.specs.Accesses.{accesses_of}
use Rattle.pk_graph.specs.Graphs.{GraphOf}
use Rattle.pk_state.specs.Facts.{Stated}
use Rattle.pk_order.specs.Ordered.{heads_of}
use Rattle.pk_report.specs.Reports.{access_line, checked_text, first_line, last_line, report_text, summary_text, unknown_in, valid_line}
use Rattle.pk_pieces.specs.declared.reports.Report.{Report}
use Rattle.pk_pieces.specs.Joined.{piece_of, pieces_of, verdict_at, verdicts_of, ReportsAreJoined}
use Rattle.pk_pieces.specs.Pieces.{lines_in, verdicts_in}
use Rattle.pk_pieces.specs.Reports.{IsSoFar}
use Rattle.pk_pieces.proofs.Writing.{ended}

-- where there are no heads, and not all is told, there are no lines
no_lines : (g : GraphOf) (states : List Stated) (vs : List ℕ) → lines_in (map (piece_of false g [] states) vs) ≡ []
no_lines g states [] = refl
no_lines g states (v ∷ vs) = no_lines g states vs

-- the accesses and the last line behind a text
abbrev pub with_end : GraphOf → List ℕ → List Verdict → List ℕ
with_end g bytes vs = bytes ++ flat_map (access_line g.paths) (zip (accesses_of g) vs) ++ last_line vs

module _ (law : ReportsAreJoined) (g : GraphOf) (states : List Stated) where
  module _ (every : Bool) (heads first : List ℕ) (r : Report) (so : IsSoFar first (pieces_of every g heads states) r) where
    pub verdicts_told : r.verdicts.items ≡ verdicts_of g states
    verdicts_told = so.verdicts ∙ law.verdicts every g heads states

    pub many_told : length r.verdicts.items ≡ length (accesses_of g)
    many_told = ap length verdicts_told ∙ length-map (accesses_of g) (verdict_at states)

    pub count_told : (unknown : ℕ) → unknown ≡ unknown_in r.verdicts.items → unknown ≡ unknown_in (verdicts_of g states)
    count_told unknown count = count ∙ ap unknown_in verdicts_told

  pub report_told : (p : PlanView) (every : Bool) (heads : List ℕ) (elements : ℕ) (first : List ℕ) (r : Report) (bytes : List ℕ) → heads ≡ heads_of p → elements ≡ p.elements → first ≡ first_line g elements
      → IsSoFar first (pieces_of every g heads states) r → bytes ≡ with_end g r.bytes.items r.verdicts.items
      → bytes ≡ report_text every g (heads_of p) p.elements states (accesses_of g) (verdicts_of g states)
  report_told p every heads elements first r bytes heads_are elements_are first_is so told =
      ended g first (pieces_of every g heads states) r bytes so told
      ∙ ap (λ (f : List ℕ). with_end g (f ++ lines_in (pieces_of every g heads states)) (verdicts_in (pieces_of every g heads states))) first_is
      ∙ law.texts every g heads elements states
      ∙ ap (λ (hs : List ℕ). report_text every g hs elements states (accesses_of g) (verdicts_of g states)) heads_are
      ∙ ap (λ (n : ℕ). report_text every g (heads_of p) n states (accesses_of g) (verdicts_of g states)) elements_are

  -- of the line of the check
  pub checked_told : (first : List ℕ) (r : Report) (bytes : List ℕ) → first ≡ valid_line g → IsSoFar first (pieces_of false g [] states) r
      → bytes ≡ with_end g r.bytes.items r.verdicts.items → bytes ≡ checked_text g (accesses_of g) (verdicts_of g states)
  checked_told first r bytes first_is so told =
      ended g first (pieces_of false g [] states) r bytes so told
      ∙ ap (λ (ls : List ℕ). with_end g (first ++ ls) (verdicts_in (pieces_of false g [] states))) (no_lines g states (range_with_len 0 (length g.points)))
      ∙ ap (λ (bs : List ℕ). with_end g bs (verdicts_in (pieces_of false g [] states))) (append-nil first ∙ first_is)
      ∙ ap (with_end g (valid_line g)) (law.verdicts false g [] states)

-- of verdicts alone
pub summary_told : (g : GraphOf) (states : List Stated) (p : PlanView) (seed size text_length elements : ℕ) (verdicts : List Verdict) (bytes : List ℕ)
    → elements ≡ p.elements → verdicts ≡ verdicts_of g states → bytes ≡ summary_text seed size text_length g elements verdicts
    → bytes ≡ summary_text seed size text_length g p.elements (verdicts_of g states)
summary_told g states p seed size text_length elements verdicts bytes elements_are verdicts_are told =
    told
    ∙ (ap (λ (n : ℕ). summary_text seed size text_length g n verdicts) elements_are
    ∙ ap (summary_text seed size text_length g p.elements) verdicts_are)
