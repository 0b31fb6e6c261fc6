-- The report by what is kept of items.
use Rattle.std.specs.Prelude.{◌≡◌, ℕ, ◌<◌, Bool, if◌then◌else◌, List, [], ◌∷◌, ◌++◌, length, map, replicate, All, Option, None}
use Rattle.std.proofs.Common.{arith, refl, sym, ap, subst, ◌∙◌, append-nil}
use Rattle.std.proofs.lemmas.Bool.{lt-ltb}
use Rattle.std.proofs.lemmas.Grind.{flat_map-append}
use Rattle.std.proofs.lemmas.List.{length-map, length-replicate, get_or-map, map-append}
use Rattle.std.proofs.lemmas.List.Elements.{All-head, All-tail, All-map, All-weaker}
use Rattle.std.proofs.lemmas.List.FromFn.{get_or-map-range_with_len}
use Rattle.pk_graph.specs.Accesses.{accesses_of}
use Rattle.pk_state.specs.Facts.{Stated}
use Rattle.pk_phases.specs.declared.equations.Cell.{Cell}
use Rattle.pk_analysis.specs.Flows.{reduced_cell, reduced_over}
use Rattle.pk_report.specs.Reports.{is_head, no_state, report_text, state_at}
use Rattle.pk_pieces.specs.Joined.{joined, piece_by, piece_of, pieces_of, verdict_at, verdicts_of, ReportsAreJoined}
use Rattle.pk_pieces.specs.Pieces.{PieceOf, nothing_of, put_each, found_in, verdicts_in, AreOf, AnyOrderIsPut}
use Rattle.pk_pieces.proofs.Told.{first_hold, last_hold}
use Rattle.pk_parts.specs.Cells.{piece_by_cell}
use Rattle.pk_parts.specs.Kept.{ReportingOf, graph_in, part_of, states_by, points_in, pieces_in, AreKept}

module _ (r : ReportingOf) (cell : ℕ → Cell Stated) where
  abbrev points : ℕ
  points = length (graph_in r).points

  -- the piece of a point, by the states of all
  abbrev pub own : ℕ → PieceOf
  own = piece_of r.all (graph_in r) r.heads (states_by r cell)

  chosen : ℕ → Bool → PieceOf
  chosen v b = if b then piece_by r.all (graph_in r) (is_head r.heads v) (reduced_over r.flow.layout (cell v)) v else nothing_of v

  state_is : (v : ℕ) → v < points → state_at (states_by r cell) v ≡ reduced_over r.flow.layout (cell v)
  state_is v h = get_or-map-range_with_len (λ (u : ℕ). reduced_cell r.flow (cell u)) 0 points v v no_state h (omega arith)

  own_is : (v : ℕ) → v < points → piece_by_cell r.all (graph_in r) r.flow.layout r.heads v (cell v) ≡ own v
  unfolding chosen
  own_is v h =
      ap (chosen v) (lt-ltb v points h)
      ∙ ap (λ (s : Stated). piece_by r.all (graph_in r) (is_head r.heads v) s v) (sym (state_is v h))

  part_is : (vs : List ℕ) → All (λ v. v < points) vs → part_of r vs (map cell vs) ≡ map own vs
  part_is [] within = refl
  part_is (v ∷ vs) within =
      ap (λ (p : PieceOf). p ∷ part_of r vs (map cell vs)) (own_is v (All-head (λ u. u < points) v vs within))
      ∙ ap (λ (ps : List PieceOf). own v ∷ ps) (part_is vs (All-tail (λ u. u < points) v vs within))

  parts_are : (items : List (List ℕ)) → All (λ v. v < points) (points_in items) → pieces_in (map (λ (vs : List ℕ). part_of r vs (map cell vs)) items) ≡ map own (points_in items)
  parts_are [] within = refl
  parts_are (vs ∷ items) within =
      ap (λ (ps : List PieceOf). ps ++ pieces_in (map (λ (us : List ℕ). part_of r us (map cell us)) items)) (part_is vs (first_hold (λ u. u < points) vs (points_in items) within))
      ∙ ap (λ (ps : List PieceOf). map own vs ++ ps) (parts_are items (last_hold (λ u. u < points) vs (points_in items) within))
      ∙ sym (map-append own vs (points_in items))

  pub all_are : (items : List (List ℕ)) (kept : List (List PieceOf)) → AreKept r cell items kept → AreOf own points (pieces_in kept)
  all_are items kept are =
      subst (AreOf own points) (sym (ap pieces_in are.each ∙ parts_are items are.within)) (record {
        each =
            All-map (λ (p : PieceOf). (p.point < points) × (p ≡ own p.point)) own (points_in items)
            (All-weaker (λ v. v < points) (λ v. (v < points) × (own v ≡ own v)) (λ v h. (h, refl)) (points_in items) are.within);
        all = λ v h.
            let at = are.all v h in (
              at.0,
              omega (arith, at.1, length-map (points_in items) own),
              ap (λ (p : PieceOf). p.point) (get_or-map own (points_in items) at.0 v (nothing_of v) at.1) ∙ at.2,
            );
      })

  module _ (any : AnyOrderIsPut) (law : ReportsAreJoined) (items : List (List ℕ)) (kept : List (List PieceOf)) (are : AreKept r cell items kept)
      (places : List (Option PieceOf)) (put : places ≡ put_each (replicate points None) (pieces_in kept)) where
    found_are : found_in places ≡ pieces_of r.all (graph_in r) r.heads (states_by r cell)
    found_are = ap found_in put ∙ any own points (pieces_in kept) (all_are items kept are)

    pub verdicts_are : verdicts_in (found_in places) ≡ verdicts_of (graph_in r) (states_by r cell)
    verdicts_are = ap verdicts_in found_are ∙ law.verdicts r.all (graph_in r) r.heads (states_by r cell)

    pub many_are : length (verdicts_in (found_in places)) ≡ length (accesses_of (graph_in r))
    many_are = ap length verdicts_are ∙ length-map (accesses_of (graph_in r)) (verdict_at (states_by r cell))

    pub text_is : (elements : ℕ) → joined (graph_in r) elements (found_in places)
        ≡ report_text r.all (graph_in r) r.heads elements (states_by r cell) (accesses_of (graph_in r)) (verdicts_of (graph_in r) (states_by r cell))
    text_is elements = ap (joined (graph_in r) elements) found_are ∙ law.texts r.all (graph_in r) r.heads elements (states_by r cell)

  -- each point has a place
  pub placed : (items : List (List ℕ)) (kept : List (List PieceOf)) (places : List (Option PieceOf)) → AreKept r cell items kept → places ≡ replicate points None → All (λ (p : PieceOf). p.point < length places) (pieces_in kept)
  placed items kept places are none =
      subst (λ (n : ℕ). All (λ (p : PieceOf). p.point < n) (pieces_in kept)) (sym (ap length none ∙ length-replicate points None))
      (All-weaker (λ (p : PieceOf). (p.point < points) × (p ≡ own p.point)) (λ (p : PieceOf). p.point < points) (λ p h. h.0) (pieces_in kept) (all_are items kept are).each)

-- what is kept of the last item comes last
pub item_last : (kept rest : List (List PieceOf)) (item : List PieceOf) → kept ≡ rest ++ item ∷ [] → pieces_in kept ≡ pieces_in rest ++ item
item_last kept rest item is =
    ap pieces_in is
    ∙ flat_map-append (λ (ps : List PieceOf). ps) rest (item ∷ [])
    ∙ ap (λ (ps : List PieceOf). pieces_in rest ++ ps) (append-nil item)
