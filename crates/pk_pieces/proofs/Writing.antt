-- What is written so far.
use Rattle.std.specs.Prelude.{◌≡◌, ℕ, ◌+◌, ◌<◌, ◌≤◌, List, [], ◌∷◌, ◌++◌, length, take, slice_index_or, Option, None, Some}
use Rattle.std.specs.List.{flat_map, zip}
use Rattle.std.specs.Option.{option_to_list}
use Rattle.std.proofs.Common.{refl, sym, ap, ◌∙◌, append_assoc, append-nil}
use Rattle.std.proofs.lemmas.Grind.{flat_map-append}
use Rattle.std.proofs.lemmas.List.{take_more, take_all}
use Rattle.std.proofs.lemmas.List.Elements.{filter_map-append}
use Rattle.pk_graph.specs.declared.verdicts.Verdict.{Verdict}
use Rattle.pk_graph.specs.Accesses.{accesses_of}
use Rattle.pk_graph.specs.Graphs.{GraphOf}
use Rattle.pk_report.specs.Reports.{access_line, last_line}
use Rattle.pk_pieces.specs.declared.reports.Report.{Report}
use Rattle.pk_pieces.specs.Reports.{IsSoFar}
use Rattle.pk_pieces.specs.Pieces.{PieceOf, found_in, lines_in, verdicts_in}

module _ (first : List ℕ) where
  pub begun : (r : Report) → r.bytes.items ≡ first → r.verdicts.items ≡ [] → IsSoFar first [] r
  begun r is none = record { bytes = is ∙ sym (append-nil first); verdicts = none }

  -- some pieces more
  pub added : (ps qs : List PieceOf) (old new : Report) → IsSoFar first ps old → new.bytes.items ≡ old.bytes.items ++ lines_in qs → new.verdicts.items ≡ old.verdicts.items ++ verdicts_in qs → IsSoFar first (ps ++ qs) new
  added ps qs old new so lines verdicts = record {
    bytes =
        lines
        ∙ ap (λ (bs : List ℕ). bs ++ lines_in qs) so.bytes
        ∙ append_assoc first (lines_in ps) (lines_in qs)
        ∙ ap (λ (bs : List ℕ). first ++ bs) (sym (flat_map-append (λ (p : PieceOf). p.lines) ps qs));
    verdicts =
        verdicts
        ∙ ap (λ (vs : List Verdict). vs ++ verdicts_in qs) so.verdicts
        ∙ sym (flat_map-append (λ (p : PieceOf). p.verdicts) ps qs);
  }

  -- one more
  pub added_one : (ps : List PieceOf) (p : PieceOf) (old new : Report) → IsSoFar first ps old → new.bytes.items ≡ old.bytes.items ++ p.lines → new.verdicts.items ≡ old.verdicts.items ++ p.verdicts → IsSoFar first (ps ++ p ∷ []) new
  added_one ps p old new so lines verdicts =
      added ps (p ∷ []) old new so
      (lines ∙ ap (λ (bs : List ℕ). old.bytes.items ++ bs) (sym (append-nil p.lines)))
      (verdicts ∙ ap (λ (vs : List Verdict). old.verdicts.items ++ vs) (sym (append-nil p.verdicts)))

-- with the accesses and the last line it is whole
pub ended : (g : GraphOf) (first : List ℕ) (ps : List PieceOf) (r : Report) (bytes : List ℕ) → IsSoFar first ps r
    → bytes ≡ r.bytes.items ++ flat_map (access_line g.paths) (zip (accesses_of g) r.verdicts.items) ++ last_line r.verdicts.items
    → bytes ≡ (first ++ lines_in ps) ++ flat_map (access_line g.paths) (zip (accesses_of g) (verdicts_in ps)) ++ last_line (verdicts_in ps)
ended g first ps r bytes so told =
    told
    ∙ ap (λ (bs : List ℕ). bs ++ flat_map (access_line g.paths) (zip (accesses_of g) r.verdicts.items) ++ last_line r.verdicts.items) so.bytes
    ∙ ap (λ (vs : List Verdict). (first ++ lines_in ps) ++ flat_map (access_line g.paths) (zip (accesses_of g) vs) ++ last_line vs) so.verdicts

-- ---- those that were found

pub found_next : (places : List (Option PieceOf)) (k : ℕ) (p : Option PieceOf) → k < length places → p ≡ slice_index_or places k p
    → found_in (take (k + 1) places) ≡ found_in (take k places) ++ option_to_list p
found_next places k p l is =
    ap found_in (take_more places k p l)
    ∙ filter_map-append (λ (o : Option PieceOf). o) (take k places) (slice_index_or places k p ∷ [])
    ∙ ap (λ (o : Option PieceOf). found_in (take k places) ++ found_in (o ∷ [])) (sym is)
    ∙ ap (λ (ps : List PieceOf). found_in (take k places) ++ ps) (one p)
  where
    one : (o : Option PieceOf) → found_in (o ∷ []) ≡ option_to_list o
    one None = refl
    one (Some q) = refl

pub found_all : (places : List (Option PieceOf)) (k : ℕ) → length places ≤ k → found_in (take k places) ≡ found_in places
found_all places k past = ap found_in (take_all k places past)
