use Rattle.std.proofs.Common.{take, length, sym, ◌∙◌, ap, arith}
use Rattle.pk_meaning.specs.Steps.{broken}
use Rattle.pk_runner_frame.specs.Frames.{held, ahead_of, nothing}
use Rattle.pk_runner_frame.proofs.FrameLemmas.{frame_is, seen, seen_past, no_ahead}
use Rattle.pk_runner_jump.specs.Marks.{past}
use Rattle.pk_runner_jump.proofs.jumps.innermost.Goals as goal

pub loop-number-preserved : goal.loop-number-preserved
loop-number-preserved c = record {
  within = omega arith;
  same = λ s.
      c.in-On.ensures s (held s (take c.loop-number.number c.args.frames.now))
      ∙ (ap broken (c.ahead_in_frame-ahead.ensures s (held s (take c.loop-number.number c.args.frames.now)))
      ∙ (sym (ap broken (seen s c.args.frames.now c.loop-number.limit c.loop-number.number c.index-frames-number.result c.loop-number-test.true c.loop-number.invariant.within
      c.index-frames-number.is)) ∙ c.loop-number.invariant.same s));
}

pub returns-in-Here : goal.returns-in-Here
returns-in-Here c = λ s.
    ap past (ap ahead_of (frame_is s c.args.frames.now c.loop-number.number c.index-frames-number.result nothing (omega arith) c.index-frames-number.is))
    ∙ (sym (ap past (c.ahead_in_frame-ahead.ensures s (held s (take c.loop-number.number c.args.frames.now))))
    ∙ (c.in-Here.ensures s (held s (take c.loop-number.number c.args.frames.now))
    ∙ (ap broken (c.ahead_in_frame-ahead.ensures s (held s (take c.loop-number.number c.args.frames.now)))
    ∙ (sym (ap broken (seen s c.args.frames.now c.loop-number.limit c.loop-number.number c.index-frames-number.result c.loop-number-test.true c.loop-number.invariant.within
    c.index-frames-number.is)) ∙ c.loop-number.invariant.same s))))

pub returns-in-Nowhere : goal.returns-in-Nowhere
returns-in-Nowhere c = λ s.
    sym (ap past (no_ahead s c.args.frames.now (length c.args.frames.now) (omega arith)))
    ∙ (c.in-Nowhere.ensures s (held s (take c.loop-number.number c.args.frames.now))
    ∙ (ap broken (c.ahead_in_frame-ahead.ensures s (held s (take c.loop-number.number c.args.frames.now)))
    ∙ (sym (ap broken (seen s c.args.frames.now c.loop-number.limit c.loop-number.number c.index-frames-number.result c.loop-number-test.true c.loop-number.invariant.within
    c.index-frames-number.is)) ∙ c.loop-number.invariant.same s)))

pub returns : goal.returns
returns c = λ s.
    sym (ap past (no_ahead s c.args.frames.now (length c.args.frames.now) (omega arith)))
    ∙ (sym (ap broken (seen_past s c.args.frames.now c.loop-number.limit c.loop-number.number c.loop-number-test.false)) ∙ c.loop-number.invariant.same s)
