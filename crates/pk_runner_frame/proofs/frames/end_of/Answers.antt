use Rattle.std.proofs.Common.{take, sym, ◌∙◌, ap, arith}
use Rattle.pk_meaning.specs.Steps.{caller_of}
use Rattle.pk_runner_frame.specs.Frames.{held}
use Rattle.pk_runner_frame.proofs.FrameLemmas.{seen, seen_past}
use Rattle.pk_runner_frame.proofs.frames.end_of.Goals as goal

pub loop-number-preserved : goal.loop-number-preserved
loop-number-preserved c = record {
  within = omega arith;
  same = λ s. c.in-Ahead.ensures s (held s (take c.loop-number.number c.args.frames.now))
      ∙ (ap caller_of (c.ahead_in_frame-ahead.ensures s (held s (take c.loop-number.number c.args.frames.now)))
      ∙ (sym (ap caller_of (seen s c.args.frames.now c.loop-number.limit c.loop-number.number c.index-frames-number.result c.loop-number-test.true
      (c.loop-number.invariant.within) c.index-frames-number.is)) ∙ c.loop-number.invariant.same s));
}

pub returns-in-End : goal.returns-in-End
returns-in-End c = λ s. c.in-End.ensures s (held s (take c.loop-number.number c.args.frames.now))
    ∙ (ap caller_of (c.ahead_in_frame-ahead.ensures s (held s (take c.loop-number.number c.args.frames.now)))
    ∙ (sym (ap caller_of (seen s c.args.frames.now c.loop-number.limit c.loop-number.number c.index-frames-number.result c.loop-number-test.true
    (c.loop-number.invariant.within) c.index-frames-number.is)) ∙ c.loop-number.invariant.same s))

pub returns : goal.returns
returns c = λ s. sym (ap caller_of (seen_past s c.args.frames.now c.loop-number.limit c.loop-number.number c.loop-number-test.false)) ∙ c.loop-number.invariant.same s
