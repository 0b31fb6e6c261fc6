use Rattle.std.proofs.Common.{arith}
use Rattle.pk_graph.specs.Shown.{graph_view}
use Rattle.pk_pieces.proofs.Cuts.{count_next, taken}
use Rattle.pk_pieces.proofs.accesses.accesses_at.Goals as goal

pub slice_bounds-result-count : goal.slice_bounds-result-count
slice_bounds-result-count c = omega (arith, count_next (graph_view c.args.graph.now) c.args.point, c.before-from.ensures.value, c.upto-to.ensures.value)

pub returns : goal.returns
returns c = taken (graph_view c.args.graph.now) c.args.accesses.now c.args.point c.before-from.result c.upto-to.result c.requires.accesses c.before-from.ensures.value c.upto-to.ensures.value

pub slice_bounds-result-start : goal.slice_bounds-result-start
slice_bounds-result-start c = omega (arith, count_next (graph_view c.args.graph.now) c.args.point, c.before-from.ensures.value, c.upto-to.ensures.value)
