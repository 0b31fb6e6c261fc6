use Rattle.pk_graph.specs.Shown.{graph_view}
use Rattle.pk_report.specs.Values.{pair_lines_if}
use Rattle.pk_report.proofs.WriteLemmas.{flat_more, flat_all}
use Rattle.pk_report.proofs.octagons.write_pairs.Goals as goal

pub write_pair-requires-clause-second : goal.write_pair-requires-clause-second
write_pair-requires-clause-second c = c.requires.others c.loop-k.k 0 c.loop-k-test.true

pub write_pair-requires-clause-second_small : goal.write_pair-requires-clause-second_small
write_pair-requires-clause-second_small c = c.requires.small c.loop-k.k 0 c.loop-k-test.true

pub loop-k-preserved : goal.loop-k-preserved
loop-k-preserved c =
    flat_more (pair_lines_if (graph_view c.args.graph.now) c.args.state.now.layout c.args.state.now.facts c.args.x) c.args.others.now c.loop-k.k 0 c.args.bytes.now.items c.loop-k.bytes.items c.write_pair.new.bytes.items c.loop-k-test.true c.loop-k.invariant
    c.in_ok-write_pair.ensures

pub returns : goal.returns
returns c = flat_all (pair_lines_if (graph_view c.args.graph.now) c.args.state.now.layout c.args.state.now.facts c.args.x) c.args.others.now c.loop-k.k c.args.bytes.now.items c.loop-k.bytes.items c.loop-k-test.false c.loop-k.invariant
