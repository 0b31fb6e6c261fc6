-- What waits for a function's end, found on the way outwards.
use Rattle.std.specs.Prelude.{List}
use Rattle.pk_meaning.specs.Work.{Caller}
use Rattle.pk_meaning.specs.Steps.{caller_of}
use Rattle.pk_runner_frame.specs.declared.frames.Outer.{Outer}
use Rattle.pk_runner_frame.specs.declared.frames.Outer.TheVariants as outers
use Rattle.pk_runner_frame.specs.Frames.{Reading, Held, ahead_at, caller_in}

abbrev pub outer_in : Reading → List Held → Outer → Caller
outer_in s hs (outers.Ahead n) = caller_of (ahead_at hs n)
outer_in s hs (outers.End c) = caller_in s hs c
