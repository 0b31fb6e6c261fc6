use Rattle.std.specs.Prelude.{◌≡◌, ◌<◌, ◌≤◌, List, ℕ, map, length}
use Rattle.std.proofs.Common.{arith, subst}
use Rattle.std.specs.Arc.{arc_value}
use Rattle.std.proofs.lemmas.List.{take_rest, length-map}
use Rattle.pk_graph.specs.Graphs.{kinds_of}
use Rattle.pk_graph.specs.Shown.{graph_view}
use Rattle.pk_cert.specs.Beginnings.{TextsOf, IsStop}
use Rattle.pk_cert.specs.Heads.{head_view}
use Rattle.pk_cert.specs.Rows.{AreLines, lines_text}
use Rattle.pk_cert_states.specs.Lines.{shape_of}
use Rattle.pk_cert_cells.specs.Reading.{AreCellsRead, IsStateless}
use Rattle.pk_cert_cells.proofs.Celling.{read_stops, read_goes_on, read_stateless, read_whole}
use Rattle.pk_cert_cells.proofs.reading.read_cells.Goals as goal

pub returns-in-Err-Byte : goal.returns-in-Err-Byte
returns-in-Err-Byte c =
    let g = graph_view c.args.graph.now in
    let h = head_view c.args.head.now in
    let n = c.args.head.now.len in
    let l = c.args.frame.now in
    let shaped : c.in-Some.shape ≡ shape_of (kinds_of (graph_view c.args.graph.now)) c.args.frame.now = c.in-Some.ensures.0 in
    let stop =
    subst (λ (x : List ℕ). IsStop (TextsOf (AreLines c.in-Some.shape (length (graph_view c.args.graph.now).points)) lines_text) x c.in-Err-Byte.n) (take_rest c.args.bytes.now c.args.head.now.len)
    (rw c.in-Err-Byte.field-0-is at c.in-Err-Byte.ensures) in
    read_stops g h c.args.bytes.now n c.requires.head.first l c.requires.frame c.in-Some.shape shaped c.in-Err-Byte.n stop

pub returns-then-head-n : goal.returns-then-head-n
returns-then-head-n c =
    let g = graph_view c.args.graph.now in
    let h = head_view c.args.head.now in
    let n = c.args.head.now.len in
    let l = c.args.frame.now in
    let shaped : c.in-Some.shape ≡ shape_of (kinds_of (graph_view c.args.graph.now)) c.args.frame.now = c.in-Some.ensures.0 in
    let is =
    subst (λ (x : List ℕ). AreCellsRead (kinds_of (graph_view c.args.graph.now)) c.args.frame.now c.in-Some.shape (length (graph_view c.args.graph.now).points) x (map arc_value c.in-Ok.cells.items) c.in-Ok.n)
    (take_rest c.args.bytes.now c.args.head.now.len) c.in-Ok.ensures in
    read_goes_on g h c.args.bytes.now n c.requires.head.first l c.requires.frame c.in-Some.shape shaped (map arc_value c.in-Ok.cells.items) c.in-Ok.n is c.if-head-n.true

pub returns-then-len-points : goal.returns-then-len-points
returns-then-len-points c =
    let g = graph_view c.args.graph.now in
    let h = head_view c.args.head.now in
    let n = c.args.head.now.len in
    let l = c.args.frame.now in
    let shaped : c.in-Some.shape ≡ shape_of (kinds_of (graph_view c.args.graph.now)) c.args.frame.now = c.in-Some.ensures.0 in
    let is =
    subst (λ (x : List ℕ). AreCellsRead (kinds_of (graph_view c.args.graph.now)) c.args.frame.now c.in-Some.shape (length (graph_view c.args.graph.now).points) x (map arc_value c.in-Ok.cells.items) c.in-Ok.n)
    (take_rest c.args.bytes.now c.args.head.now.len) c.in-Ok.ensures in
    let size = length-map c.in-Ok.cells.items arc_value in
    let few : length (map arc_value c.in-Ok.cells.items) < length g.points = omega (arith, size, c.len.ensures, c.points.ensures, c.if-len-points.true) in
    subst (IsStateless g h c.args.bytes.now) (omega (arith, size, c.len-then-len-points.ensures)) (read_stateless g h c.args.bytes.now n c.requires.head.first l c.requires.frame c.in-Some.shape shaped (map arc_value c.in-Ok.cells.items) c.in-Ok.n is c.if-head-n.false few)

pub returns : goal.returns
returns c =
    let g = graph_view c.args.graph.now in
    let h = head_view c.args.head.now in
    let n = c.args.head.now.len in
    let l = c.args.frame.now in
    let shaped : c.in-Some.shape ≡ shape_of (kinds_of (graph_view c.args.graph.now)) c.args.frame.now = c.in-Some.ensures.0 in
    let is =
    subst (λ (x : List ℕ). AreCellsRead (kinds_of (graph_view c.args.graph.now)) c.args.frame.now c.in-Some.shape (length (graph_view c.args.graph.now).points) x (map arc_value c.in-Ok.cells.items) c.in-Ok.n)
    (take_rest c.args.bytes.now c.args.head.now.len) c.in-Ok.ensures in
    let size = length-map c.in-Ok.cells.items arc_value in
    let all : length g.points ≤ length (map arc_value c.in-Ok.cells.items) = omega (arith, size, c.len.ensures, c.points.ensures, c.if-len-points.false) in
    read_whole g h c.args.bytes.now n c.requires.head.first l c.requires.frame c.in-Some.shape shaped (map arc_value c.in-Ok.cells.items) c.in-Ok.n is c.if-head-n.false all
