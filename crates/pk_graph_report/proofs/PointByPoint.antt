-- Pieces are told point by point.
use Rattle.std.specs.Prelude.{◌≡◌, ℕ, ◌+◌, ◌<◌, Bool, false, List, [], ◌∷◌, ◌++◌, length, map, slice_get, slice_index_or, Some}
use Rattle.std.specs.List.{range_with_len}
use Rattle.std.proofs.Common.{arith, subst, sym, ap, ◌∙◌}
use Rattle.std.proofs.lemmas.List.{get_or_default}
use Rattle.std.proofs.lemmas.List.Elements.{All-get_or}
use Rattle.std.proofs.lemmas.List.FromFn.{map-range_with_len_more}
use Rattle.std.proofs.lemmas.Option.{get_or_from_slice_get}
use Rattle.pk_graph.specs.Graphs.{GraphOf, kinds_of}
use Rattle.pk_state.specs.Facts.{Stated}
use Rattle.pk_transfer.specs.Trees.{IsOver}
use Rattle.pk_report.specs.Reports.{AreHeads, no_state, state_at}
use Rattle.pk_pieces.specs.declared.reports.Report.{Report}
use Rattle.pk_pieces.specs.Joined.{piece_by, piece_of, pieces_of}
use Rattle.pk_pieces.specs.Pieces.{PieceOf}
use Rattle.pk_pieces.specs.Reports.{IsSoFar}
use Rattle.pk_pieces.proofs.Writing.{added_one}
use Rattle.pk_solver.specs.Solved.{AreOver}

pub state_so : (states : List Stated) (p : ℕ) (s : Stated) → slice_get states p ≡ Some s → s ≡ state_at states p
state_so states p s there = sym (get_or_from_slice_get states p s no_state there)

-- a state is over the graph's variables
pub over_there : (g : GraphOf) (states : List Stated) (p : ℕ) (s : Stated) → AreOver g states → p < length g.points → s ≡ state_at states p → IsOver (kinds_of g) s.layout
over_there g states p s over l is =
    subst (λ (t : Stated). IsOver (kinds_of g) t.layout) (sym is)
    (All-get_or (λ (t : Stated). IsOver (kinds_of g) t.layout) states p no_state (omega (arith, l, over.size)) over.each)

module _ (all : Bool) (g : GraphOf) (heads : List ℕ) (states : List Stated) (first : List ℕ) where
  -- the pieces of the first v points are told
  abbrev pub AreTold : ℕ → Report → Type 0
  AreTold v r = IsSoFar first (map (piece_of all g heads states) (range_with_len 0 v)) r

  pub told_next : (n v : ℕ) (marks : List Bool) (b : Bool) (p : PieceOf) (old new : Report) → v < n → AreHeads n heads marks → b ≡ slice_index_or marks v b
      → p ≡ piece_by all g b (state_at states v) v → AreTold v old → new.bytes.items ≡ old.bytes.items ++ p.lines → new.verdicts.items ≡ old.verdicts.items ++ p.verdicts → AreTold (v + 1) new
  told_next n v marks b p old new h m f is so lines verdicts =
      let here : p ≡ piece_of all g heads states v =
      is ∙ ap (λ (c : Bool). piece_by all g c (state_at states v) v) (f ∙ get_or_default marks v b false (subst (λ (k : ℕ). v < k) (sym m.size) h) ∙ m.each v h) in
      subst (λ (ps : List PieceOf). IsSoFar first ps new)
      (ap (λ (q : PieceOf). map (piece_of all g heads states) (range_with_len 0 v) ++ q ∷ []) here ∙ sym (map-range_with_len_more (piece_of all g heads states) 0 v v (omega arith)))
      (added_one first (map (piece_of all g heads states) (range_with_len 0 v)) p old new so lines verdicts)

  pub told_end : (v : ℕ) (r : Report) → v ≡ length g.points → AreTold v r → IsSoFar first (pieces_of all g heads states) r
  told_end v r e so = subst (λ (k : ℕ). AreTold k r) e so
