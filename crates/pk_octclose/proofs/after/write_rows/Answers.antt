use Rattle.std.proofs.Common.{◌∙◌, arith}
use Rattle.pk_octmat.proofs.Pair.{pair_more, pair_none}
use Rattle.pk_octclose.proofs.Lowered.{line_read}
use Rattle.pk_octclose.proofs.after.write_rows.Goals as goal

pub loop-j-init : goal.loop-j-init
loop-j-init c = pair_none c.args.d c.args.p _ _ c.args.cells.now c.requires.size

pub loop-j-preserved : goal.loop-j-preserved
loop-j-preserved c =
    pair_more c.args.d c.args.p c.loop-j.j _ _ c.args.cells.now c.loop-j.cells c.write_pair.new.cells c.loop-j.invariant c.write_pair.ensures.kept
    (c.write_pair.ensures.first ∙ line_read c.args.first.now c.loop-j.j c.index-first-j.result c.requires.own (omega (arith, c.loop-j-test.true, c.requires.few)) c.index-first-j.is)
    (c.write_pair.ensures.second ∙ line_read c.args.second.now c.loop-j.j c.index-second-j.result c.requires.own_two (omega (arith, c.loop-j-test.true, c.requires.few)) c.index-second-j.is) c.requires.even c.write_pair.ensures.own c.write_pair.ensures.others
