use Rattle.std.proofs.Common.{ℕ, ◌≡◌, ◌<◌, ◌++◌, ◌∙◌, [], ◌∷◌, None, arith, ap, sym, subst, length, map}
use Rattle.std.specs.Arc.{arc_value}
use Rattle.std.specs.List.{slice_index_or}
use Rattle.std.proofs.lemmas.List.{length-map, get_or-map, get_or_default}
use Rattle.std.proofs.lemmas.List.Elements.{All-get_or}
use Rattle.pk_graph.specs.Shown.{graph_view}
use Rattle.pk_state.specs.Facts.{Stated}
use Rattle.pk_phases.specs.declared.equations.Cell.{Cell}
use Rattle.pk_phases.specs.Equations.{value_of}
use Rattle.pk_analysis.specs.Flows.{stated}
use Rattle.pk_pieces.specs.Pieces.{PieceOf}
use Rattle.pk_parts.specs.Cells.{piece_by_cell}
use Rattle.pk_parts.proofs.ByCells.{zip_more, zip_all}
use Rattle.pk_parts.proofs.cells.pieces_by_cells.Goals as goal

pub piece_by_cell-requires-clause-held : goal.piece_by_cell-requires-clause-held
piece_by_cell-requires-clause-held c =
    let l = c.args.frame.now in
    let r = c.index-cells-k.result in
    let below : c.loop-k.k < length c.args.cells.now = omega (arith, c.requires.size, c.loop-k-test.true) in
    let same = get_or-map arc_value c.args.cells.now c.loop-k.k r (arc_value r) below ∙ ap arc_value (sym c.index-cells-k.is) ∙ sym c.deref.ensures in
    subst (λ (x : Cell Stated). (value_of (stated l None) x).layout ≡ l) same
    (All-get_or (λ (x : Cell Stated). (value_of (stated l None) x).layout ≡ l) (map arc_value c.args.cells.now) c.loop-k.k (arc_value r) (omega (arith, below, length-map c.args.cells.now arc_value)) c.requires.held)

pub loop-k-preserved : goal.loop-k-preserved
loop-k-preserved c =
    let g = graph_view c.args.graph.now in
    let f = λ (x : ℕ × Cell Stated). piece_by_cell c.args.all g c.args.frame.now c.args.heads.now x.0 x.1 in
    let r = c.index-cells-k.result in
    let k = c.loop-k.k in
    let point = slice_index_or c.args.points.now k 0 in
    let below : k < length c.args.cells.now = omega (arith, c.requires.size, c.loop-k-test.true) in
    zip_more f c.args.points.now (map arc_value c.args.cells.now) k point (arc_value r) c.loop-k.pieces.items c.push.new.self.items
    c.loop-k-test.true (c.requires.size ∙ sym (length-map c.args.cells.now arc_value))
    (get_or_default c.args.points.now k 0 point c.loop-k-test.true)
    (sym (get_or-map arc_value c.args.cells.now k r (arc_value r) below ∙ ap arc_value (sym c.index-cells-k.is)))
    c.loop-k.invariant
    (c.in_ok-push.ensures.items
    ∙ ap (λ (p : PieceOf). c.loop-k.pieces.items ++ p ∷ [])
    (c.in_ok-piece.ensures ∙ ap (λ (x : Cell Stated). piece_by_cell c.args.all g c.args.frame.now c.args.heads.now point x) c.deref.ensures))

pub returns : goal.returns
returns c =
    zip_all (λ (x : ℕ × Cell Stated). piece_by_cell c.args.all (graph_view c.args.graph.now) c.args.frame.now c.args.heads.now x.0 x.1) c.args.points.now (map arc_value c.args.cells.now) c.loop-k.k c.loop-k.pieces.items
    c.loop-k-test.false (c.requires.size ∙ sym (length-map c.args.cells.now arc_value)) c.loop-k.invariant
