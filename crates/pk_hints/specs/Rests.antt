-- How a worker rests that finds nothing.
use Rattle.std.specs.Prelude.{ℕ, Option}

pub record RestView : Type 0 where
  -- how often it has found nothing, one time after another
  pub turns : ℕ
  -- how often the bell was rung when the worker was about to sleep, if it is
  pub dozing : Option ℕ
