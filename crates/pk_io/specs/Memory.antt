-- What a source and a sink in memory show.
use Rattle.std.specs.Prelude.{ℕ, List}

-- Bytes that are read in pieces of at most `greatest`. `failing` has the numbers of the calls that fail, and `calls` is the next call's.
pub record MemInput : Type 0 where
  pub left : List ℕ
  pub greatest : ℕ
  pub failing : List ℕ
  pub calls : ℕ
  pub turns : ℕ
  pub shortest : ℕ
  pub longest : ℕ
  pub faults : ℕ

-- Bytes that are written in pieces of at most `greatest`. `failing` and `calls` are as above.
pub record MemOutput : Type 0 where
  pub written : List ℕ
  pub greatest : ℕ
  pub failing : List ℕ
  pub calls : ℕ
  pub turns : ℕ
  pub faults : ℕ
