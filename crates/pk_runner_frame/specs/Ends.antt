-- The ends of loops' bodies among what comes behind statements.
use Rattle.std.specs.Prelude.{◌≡◌, List}
use Rattle.pk_meaning.specs.Work.{Again, Ahead, Lost, Return, Nobody}
use Rattle.pk_runner_frame.specs.declared.frames.LoopEnd.{LoopEnd}
use Rattle.pk_runner_frame.specs.Frames.{Reading, Held, ahead_at, place_in, loop_in, into, head, behind, turn, back}

abbrev pub end_in : Reading → List Held → LoopEnd → Ahead
end_in s hs x = Again (place_in s x.here) (loop_in x.kind) (place_in s x.end) (ahead_at hs x.ahead)

-- it is no loop's end
pub record NoLoop (a : Ahead) : Type 0 where
  pub no_into : into a ≡ Lost
  pub no_head : head a ≡ Lost
  pub no_behind : behind a ≡ Lost
  pub no_turn : turn a ≡ Return Nobody
  pub no_back : back a ≡ Return Nobody
