use Rattle.std.proofs.Common.{◌≡◌, ◌<◌, ◌∙◌, ap, ℕ, ◌++◌, slice_index_or, arith}
use Rattle.std.specs.List.{range_with_len}
use Rattle.std.proofs.lemmas.List.FromFn.{length-range_with_len, get_or-range_with_len}
use Rattle.pk_graph.specs.Shown.{graph_view}
use Rattle.pk_report.specs.Values.{numbers_of, element_line_if}
use Rattle.pk_report.proofs.WriteLemmas.{flat_more, flat_all}
use Rattle.pk_report.proofs.values.write_elements.Goals as goal

pub loop-i-preserved : goal.loop-i-preserved
loop-i-preserved c =
    let g = graph_view c.args.graph.now in
    let line = element_line_if g c.args.state.now.layout c.args.state.now.facts c.args.x in
    let n = numbers_of g c.args.x in
    let below : c.loop-i.i < n = omega (arith, c.loop-i-test.true, c.numbers_of-i-end.ensures) in
    let element : c.loop-i.i ≡ slice_index_or (range_with_len 0 n) c.loop-i.i 0 = omega (arith, get_or-range_with_len 0 n c.loop-i.i 0 below) in
    flat_more line (range_with_len 0 n) c.loop-i.i 0 c.args.bytes.now.items c.loop-i.bytes.items c.write_element.new.bytes.items
    (omega (arith, below, length-range_with_len 0 n)) c.loop-i.invariant
    (c.in_ok-write_element.ensures ∙ ap (λ (i : ℕ). c.loop-i.bytes.items ++ line i) element)

pub returns : goal.returns
returns c =
    let g = graph_view c.args.graph.now in
    let n = numbers_of g c.args.x in
    flat_all (element_line_if g c.args.state.now.layout c.args.state.now.facts c.args.x) (range_with_len 0 n) c.loop-i.i c.args.bytes.now.items c.loop-i.bytes.items
    (omega (arith, c.loop-i-test.false, c.numbers_of-i-end.ensures, length-range_with_len 0 n)) c.loop-i.invariant
