-- The frames at and above the limit are behind.
use Rattle.std.proofs.Common.{◌≡◌, ◌≤◌, length, take}
use Rattle.pk_meaning.specs.Steps.{caller_of}
use Rattle.pk_runner_frame.specs.Frames.{Reading, held, ahead_at}
use Rattle.pk_runner_frame.proofs.frames.end_of.Given as goal

abbrev pub invariant-loop-number : goal.invariant-loop-number
invariant-loop-number l = record {
  within : l.limit ≤ length l.frames;
  same : (s : Reading) → caller_of (ahead_at (held s (take l.limit l.frames)) l.number) ≡ caller_of (ahead_at (held s l.fn.frames) l.fn.ahead);
}

abbrev pub decreases-loop-number : goal.decreases-loop-number
decreases-loop-number l = l.limit
