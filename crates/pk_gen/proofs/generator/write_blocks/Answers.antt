use Rattle.std.proofs.Common.{rules}
use Rattle.pk_gen.proofs.Blocks.{block_written, all_written}
use Rattle.pk_gen.proofs.generator.write_blocks.Goals as goal

pub loop-preserved : goal.loop-preserved
loop-preserved c = (c.in_ok-state.ensures.range, block_written c.loop.bytes.items c.write_block.new.bytes.items _ c.args.size c.loop.counter c.loop.state c.in_ok-state.state (search rules) c.loop.invariant.1 c.in_ok-state.ensures.block c.in_ok-state.ensures.state)

pub returns : goal.returns
returns c = all_written c.loop.bytes.items _ c.args.size c.loop.counter c.loop.state (search rules) c.loop.invariant.1
