use Rattle.std.proofs.Common.{◌≡◌, ℕ, ◌++◌, List, length, Some, slice_get, ap, sym, ◌∙◌, arith}
use Rattle.pk_graph.specs.Graphs.{kinds_of}
use Rattle.pk_graph.specs.Shown.{graph_view}
use Rattle.pk_state.specs.Facts.{Stated}
use Rattle.pk_phases.specs.declared.equations.Cell.{Cell}
use Rattle.pk_cert.specs.Rows.{line_text}
use Rattle.pk_cert_states.specs.Lines.{line_of}
use Rattle.pk_cert_cells.specs.Cells.{state_in}
use Rattle.pk_cert_cells.proofs.Joining.{all_got, line_more, lines_fewer}
use Rattle.pk_cert_cells.proofs.writing.write_cells.Goals as goal

pub returns-then-len-gt-MOST_BYTES : goal.returns-then-len-gt-MOST_BYTES
returns-then-len-gt-MOST_BYTES c =
    let g = graph_view c.args.graph.now in
    let fewer = lines_fewer c.args.frame.now (line_of (kinds_of (graph_view c.args.graph.now))) c.args.bytes.now.items c.args.cells.now.cells c.loop-v.v (length g.points) (omega (arith, c.loop-v-test.true, c.points-v-end.ensures)) in
    omega (arith, fewer, ap (length {A = ℕ}) c.loop-v.invariant.0, c.if-len-gt-MOST_BYTES.true, c.len.ensures)

pub write_cell-requires-clause-over : goal.write_cell-requires-clause-over
write_cell-requires-clause-over c =
    let l = c.args.frame.now in
    let there : slice_get c.args.cells.now.cells c.loop-v.v ≡ Some c.deref.result.now = c.cell.ensures ∙ ap (λ (x : Cell Stated). Some x) (sym c.deref.ensures) in
    all_got (λ (x : Cell Stated). ◌≡◌ (state_in l x).layout l) c.args.cells.now.cells c.loop-v.v c.deref.result.now c.requires.cells.over there

pub loop-v-preserved : goal.loop-v-preserved
loop-v-preserved c =
    let l = c.args.frame.now in
    let there : slice_get c.args.cells.now.cells c.loop-v.v ≡ Some c.deref.result.now = c.cell.ensures ∙ ap (λ (x : Cell Stated). Some x) (sym c.deref.ensures) in (
      c.in_ok-write_cell.ensures.bytes
          ∙ ap (λ (r : List ℕ). r ++ line_text (line_of (kinds_of (graph_view c.args.graph.now)) (state_in l c.deref.result.now).facts)) c.loop-v.invariant.0
          ∙ line_more l (line_of (kinds_of (graph_view c.args.graph.now))) c.args.bytes.now.items c.args.cells.now.cells c.loop-v.v c.deref.result.now there,
      c.in_ok-write_cell.ensures.told,
    )
