use Rattle.pk_graph.specs.Shown.{graph_view}
use Rattle.pk_report.specs.Values.{value_lines_if}
use Rattle.pk_report.proofs.WriteLemmas.{flat_more, flat_all}
use Rattle.pk_report.proofs.values.write_values.Goals as goal

pub write_variable-requires-clause-variable : goal.write_variable-requires-clause-variable
write_variable-requires-clause-variable c = c.requires.visible c.loop-k.k 0 c.loop-k-test.true

pub loop-k-preserved : goal.loop-k-preserved
loop-k-preserved c =
    flat_more (value_lines_if (graph_view c.args.graph.now) c.args.state.now.layout c.args.state.now.facts) c.args.visible.now c.loop-k.k 0 c.args.bytes.now.items c.loop-k.bytes.items c.write_variable.new.bytes.items c.loop-k-test.true c.loop-k.invariant c.in_ok-write_variable.ensures

pub returns : goal.returns
returns c = flat_all (value_lines_if (graph_view c.args.graph.now) c.args.state.now.layout c.args.state.now.facts) c.args.visible.now c.loop-k.k c.args.bytes.now.items c.loop-k.bytes.items c.loop-k-test.false c.loop-k.invariant
