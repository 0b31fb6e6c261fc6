-- What clap has found for the options of words that are taken.
use Rattle.std.specs.Prelude.{◌≡◌, ◌||◌, ℕ, true, pos, List, codes, is_some, option_map, IfSome}
use Rattle.std.specs.Str.{bytes_eq}
use Rattle.clap.specs.Lexer.{without_minus}
use Rattle.clap.specs.Words.{IsSignedIn, Row, Text, first_of, one_of}

-- a number that was given lies in the range, and is read without a minus
pub record IsNumberFound (name : Text) (least most : ℕ) (rows : List Row) : Type 0 where
  pub within : IfSome (first_of name rows) (IsSignedIn (pos least) (pos most))
  pub read : one_of name rows ≡ option_map without_minus (first_of name rows)

-- a number was given, lies in the range, and is read without a minus
pub record IsRequiredFound (name : Text) (least most : ℕ) (rows : List Row) : Type 0 where
  pub number : IsNumberFound name least most rows
  pub given : is_some (first_of name rows) ≡ true

-- a flag's value is one of the two words
pub record IsFlagFound (name : Text) (rows : List Row) : Type 0 where
  pub word : IfSome (first_of name rows)
      (λ text. (bytes_eq text (codes "true") || bytes_eq text (codes "false")) ≡ true)
  pub read : one_of name rows ≡ first_of name rows

-- the numbers of `run` and of `cert`
pub record AreNumbersFound (rows : List Row) : Type 0 where
  pub workers : IsNumberFound (codes "workers") 1 64 rows
  pub delay : IsNumberFound (codes "delay") 0 16 rows
  pub narrow : IsNumberFound (codes "narrow") 0 8 rows
  pub oct : IsNumberFound (codes "oct") 0 64 rows
  pub max_runs : IsNumberFound (codes "max-runs") 1 549755813888 rows

pub record IsRunFound (rows : List Row) : Type 0 where
  pub numbers : AreNumbersFound rows
  pub points : IsFlagFound (codes "points") rows
  pub lean : IsFlagFound (codes "lean") rows
  pub packs : IsFlagFound (codes "packs") rows

pub record IsGenFound (rows : List Row) : Type 0 where
  pub seed : IsRequiredFound (codes "seed") 0 2147483647 rows
  pub size : IsRequiredFound (codes "size") 1 1000 rows
  pub workers : IsNumberFound (codes "workers") 1 64 rows
