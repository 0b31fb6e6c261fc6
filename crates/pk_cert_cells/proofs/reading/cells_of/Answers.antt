use Rattle.std.specs.Prelude.{◌≡◌, List, ℕ, map, length}
use Rattle.std.proofs.Common.{arith, subst}
use Rattle.std.specs.Arc.{arc_value}
use Rattle.std.proofs.lemmas.List.{take_rest}
use Rattle.pk_graph.specs.Graphs.{kinds_of}
use Rattle.pk_graph.specs.Shown.{graph_view}
use Rattle.pk_cert.specs.Beginnings.{TextsOf, IsStop}
use Rattle.pk_cert.specs.Rows.{IsLine, line_text}
use Rattle.pk_cert_cells.specs.Reading.{IsNextRead}
use Rattle.pk_cert_cells.proofs.Celling.{CellsSo, so_begun, so_next, so_stop, so_ended}
use Rattle.pk_cert_cells.proofs.reading.cells_of.Goals as goal

pub loop-k-init : goal.loop-k-init
loop-k-init c =
    let g = graph_view c.args.graph.now in
    (rw c.new-cells.ensures.items (so_begun (kinds_of g) c.args.frame.now c.args.shape (length g.points) c.args.bytes.now), c.in_ok-told.ensures.1)

pub loop-k-preserved : goal.loop-k-preserved
loop-k-preserved c =
    let g = graph_view c.args.graph.now in (
      so_next (kinds_of g) c.args.frame.now c.args.shape (length g.points) c.args.bytes.now (map arc_value c.loop-k.cells.items) (map arc_value c.read_next.new.cells.items) c.loop-k.k c.loop-k.at c.in-Ok.n
          c.loop-k.invariant.0 (omega (arith, c.loop-k-test.true, c.points-k-end.ensures))
          (subst (λ (x : List ℕ). IsNextRead (kinds_of (graph_view c.args.graph.now)) c.args.frame.now c.args.shape c.loop-k.k x (map arc_value c.loop-k.cells.items) (map arc_value c.read_next.new.cells.items) c.in-Ok.n) (take_rest c.args.bytes.now c.loop-k.at) c.in-Ok.ensures.line),
      c.in-Ok.ensures.told,
    )

pub returns-in-Err-Byte : goal.returns-in-Err-Byte
returns-in-Err-Byte c =
    let g = graph_view c.args.graph.now in
    let stop =
    so_stop (kinds_of g) c.args.frame.now c.args.shape (length g.points) c.args.bytes.now (map arc_value c.loop-k.cells.items) c.loop-k.k c.loop-k.at c.in-Err-Byte.n c.loop-k.invariant.0 (omega (arith, c.loop-k-test.true, c.points-k-end.ensures))
    (subst (λ (x : List ℕ). IsStop (TextsOf (IsLine c.args.shape) line_text) x c.in-Err-Byte.n) (take_rest c.args.bytes.now c.loop-k.at) (rw c.in-Err-Byte.field-0-is at c.in-Err-Byte.ensures.line)) in
    rw c.in-Err-Byte.field-0-is stop

pub returns : goal.returns
returns c =
    let g = graph_view c.args.graph.now in
    let e : c.loop-k.k ≡ length g.points = omega (arith, c.loop-k-test.false, c.loop-k.auto.k-end, c.points-k-end.ensures) in
    so_ended (kinds_of g) c.args.frame.now c.args.shape (length g.points) c.args.bytes.now (map arc_value c.loop-k.cells.items) c.loop-k.at
    (subst (λ (j : ℕ). CellsSo (kinds_of g) c.args.frame.now c.args.shape (length g.points) c.args.bytes.now (map arc_value c.loop-k.cells.items) j c.loop-k.at) e c.loop-k.invariant.0)
