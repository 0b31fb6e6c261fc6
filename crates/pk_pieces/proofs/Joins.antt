-- The report is the join of its pieces.
use Rattle.std.specs.Prelude.{◌≡◌, ℕ, zero, suc, Bool, List, [], ◌∷◌, ◌++◌, length, map, take, All}
use Rattle.std.specs.List.{flat_map, range_with_len, zip}
use Rattle.std.proofs.Common.{arith, refl, sym, ap, ◌∙◌, add-one, append-nil}
use Rattle.std.proofs.lemmas.Grind.{flat_map-append}
use Rattle.std.proofs.lemmas.List.{map-append, take_all}
use Rattle.std.proofs.lemmas.List.Elements.{All-head, All-tail}
use Rattle.std.proofs.lemmas.List.Folds.{flat_map-map}
use Rattle.std.proofs.lemmas.List.FromFn.{map-range_with_len_more}
use Rattle.pk_graph.specs.declared.verdicts.Verdict.{Verdict}
use Rattle.pk_graph.specs.Accesses.{AccessOf, accesses_of, of_points}
use Rattle.pk_graph.specs.Graphs.{GraphOf, PointOf}
use Rattle.pk_state.specs.Facts.{Stated}
use Rattle.pk_report.specs.Reports.{access_line, first_line, last_line, report_text, state_at, told_lines}
use Rattle.pk_pieces.specs.Accesses.{accesses_at}
use Rattle.pk_pieces.specs.Joined.{verdict_by, verdict_at, verdicts_of, piece_of, pieces_of, joined, ReportsAreJoined}
use Rattle.pk_pieces.specs.Pieces.{PieceOf, lines_in, verdicts_in}
use Rattle.pk_pieces.proofs.Ranges.{IsAt, at_edges, next}

module _ (all : Bool) (g : GraphOf) (heads : List ℕ) (states : List Stated) where
  -- accesses of one point
  same_there : (v : ℕ) (ys : List AccessOf) → All (IsAt v) ys → map (verdict_at states) ys ≡ map (verdict_by (state_at states v)) ys
  same_there v [] are = refl
  same_there v (a ∷ ys) are =
      ap (λ (p : ℕ). verdict_by (state_at states p) a ∷ map (verdict_at states) ys) (All-head (IsAt v) a ys are)
      ∙ ap (λ (vs : List Verdict). verdict_by (state_at states v) a ∷ vs) (same_there v ys (All-tail (IsAt v) a ys are))

  -- the verdicts on the accesses of the first k points
  first : (k : ℕ) → verdicts_in (map (piece_of all g heads states) (range_with_len 0 k)) ≡ map (verdict_at states) (of_points 0 (take k g.points))
  first zero = refl
  first (suc k) =
      let one = map-range_with_len_more (piece_of all g heads states) 0 k k (omega arith) in
      ap (λ (n : ℕ). verdicts_in (map (piece_of all g heads states) (range_with_len 0 n))) (sym (add-one k))
      ∙ ap verdicts_in one
      ∙ flat_map-append (λ (p : PieceOf). p.verdicts) (map (piece_of all g heads states) (range_with_len 0 k)) (piece_of all g heads states k ∷ [])
      ∙ ap (λ (vs : List Verdict). vs ++ (map (verdict_by (state_at states k)) (accesses_at g k) ++ [])) (first k)
      ∙ ap (λ (vs : List Verdict). map (verdict_at states) (of_points 0 (take k g.points)) ++ vs)
      (append-nil (map (verdict_by (state_at states k)) (accesses_at g k)) ∙ sym (same_there k (accesses_at g k) (at_edges k _)))
      ∙ sym (map-append (verdict_at states) (of_points 0 (take k g.points)) (accesses_at g k))
      ∙ ap (map (verdict_at states)) (sym (next 0 k k g.points (omega arith)))

  pub verdicts_are : verdicts_in (pieces_of all g heads states) ≡ verdicts_of g states
  verdicts_are =
      first (length g.points)
      ∙ ap (λ (ps : List PointOf). map (verdict_at states) (of_points 0 ps)) (take_all (length g.points) g.points (omega arith))

  pub lines_are : lines_in (pieces_of all g heads states) ≡ flat_map (told_lines all g heads states) (range_with_len 0 (length g.points))
  lines_are = flat_map-map (λ (p : PieceOf). p.lines) (piece_of all g heads states) (range_with_len 0 (length g.points))

  pub text_is : (elements : ℕ) → joined g elements (pieces_of all g heads states) ≡ report_text all g heads elements states (accesses_of g) (verdicts_of g states)
  text_is elements =
      ap (λ (ls : List ℕ). first_line g elements ++ ls ++ flat_map (access_line g.paths) (zip (accesses_of g) (verdicts_in (pieces_of all g heads states))) ++ last_line (verdicts_in (pieces_of all g heads states))) lines_are
      ∙ ap (λ (vs : List Verdict). first_line g elements ++ flat_map (told_lines all g heads states) (range_with_len 0 (length g.points)) ++ flat_map (access_line g.paths) (zip (accesses_of g) vs) ++ last_line vs) verdicts_are

pub reports_joined : ReportsAreJoined
reports_joined = record {
  texts = λ all g heads elements states. text_is all g heads states elements;
  verdicts = λ all g heads states. verdicts_are all g heads states;
}
