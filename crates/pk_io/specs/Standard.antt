-- What a source over a reader and a sink over a writer show.
use Rattle.std.specs.Prelude.{ℕ, List}
use Rattle.std.specs.declared.option.Option.{Option}

-- the bytes that the reader has left, where it tells them
pub record StdInput : Type 0 where
  pub left : Option (List ℕ)
  pub turns : ℕ
  pub shortest : ℕ
  pub longest : ℕ
  pub faults : ℕ

-- the bytes that the writer holds, where it tells them
pub record StdOutput : Type 0 where
  pub written : Option (List ℕ)
  pub turns : ℕ
  pub faults : ℕ
