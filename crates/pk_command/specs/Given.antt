-- The command that words give, with its options.
use Rattle.std.specs.Prelude.{◌≡◌, ◌≤◌, ℕ, Bool, false, ⊤, IsTrue, List, codes, unwrap_or, option_map, Option, Some}
use Rattle.std.specs.Option.{option_map_or}
use Rattle.std.specs.Str.{bytes_eq}
use Rattle.std.specs.Str.Parse.{digits_value, without_leading_sign}
use Rattle.clap.specs.Words.{Row, Text, first_of, subcommand_of}
use Rattle.pk_command.specs.declared.asked.Command.{Command}
use Rattle.pk_command.specs.declared.asked.Command.TheVariants.{Run, Order, Gen, Cert, Check}
use Rattle.pk_command.specs.declared.asked.RunOptions.{RunOptions}
use Rattle.pk_command.specs.declared.asked.OrderOptions.{OrderOptions}
use Rattle.pk_command.specs.declared.asked.GenOptions.{GenOptions}
use Rattle.pk_command.specs.declared.asked.CertOptions.{CertOptions}
use Rattle.pk_command.specs.CommandLine.{is_taken, pikos_app}

-- the command that the words name, and what they give of its options
abbrev pub given_by : List Text → Option (Text × List Row)
given_by words = subcommand_of pikos_app words

-- the number that a text of decimal digits writes, after its sign if it has one
abbrev pub number_in : Text → ℕ
number_in text = digits_value 10 (without_leading_sign text)

-- an option's number, where it is given
abbrev pub number_given : Text → List Row → Option ℕ
number_given name rows = option_map number_in (first_of name rows)

-- an option's number, or its default where it isn't given
abbrev pub number_of : Text → ℕ → List Row → ℕ
number_of name default rows = unwrap_or (number_given name rows) default

-- an option's text, or its default where it isn't given
abbrev pub text_of : Text → Text → List Row → Text
text_of name default rows = unwrap_or (first_of name rows) default

-- whether a flag is given
abbrev pub is_set : Text → List Row → Bool
is_set name rows = option_map_or (λ text. bytes_eq text (codes "true")) (first_of name rows) false

abbrev pub run_options : List Row → RunOptions
run_options rows = record {
  workers = number_of (codes "workers") 4 rows;
  delay = number_of (codes "delay") 0 rows;
  narrow = number_of (codes "narrow") 2 rows;
  oct = number_of (codes "oct") 16 rows;
  max_runs = number_of (codes "max-runs") 1000000 rows;
  entry = text_of (codes "entry") (codes "main") rows;
  points = is_set (codes "points") rows;
  lean = is_set (codes "lean") rows;
  packs = is_set (codes "packs") rows;
}

abbrev pub order_options : List Row → OrderOptions
order_options rows = record {
  entry = text_of (codes "entry") (codes "main") rows;
  peak = is_set (codes "peak") rows;
}

-- the options of `gen`, of which the seed and the size have no default
pub record IsGen (rows : List Row) (options : GenOptions) : Type 0 where
  pub seed : number_given (codes "seed") rows ≡ Some options.seed
  pub size : number_given (codes "size") rows ≡ Some options.size
  pub workers : options.workers ≡ number_of (codes "workers") 4 rows

abbrev pub cert_options : List Row → CertOptions
cert_options rows = record {
  workers = number_of (codes "workers") 4 rows;
  delay = number_of (codes "delay") 0 rows;
  narrow = number_of (codes "narrow") 2 rows;
  oct = number_of (codes "oct") 16 rows;
  max_runs = number_of (codes "max-runs") 1000000 rows;
  entry = text_of (codes "entry") (codes "main") rows;
}

-- the words are taken, and ask for the command
unfoldable pub AsksFor : List Text → Command → Type 0
AsksFor words (Run options) =
    IsTrue (is_taken words)
    × ((rows : List Row) × ((given_by words ≡ Some (codes "run", rows)) × (options ≡ run_options rows)))
AsksFor words (Order options) =
    IsTrue (is_taken words)
    × ((rows : List Row) × ((given_by words ≡ Some (codes "order", rows)) × (options ≡ order_options rows)))
AsksFor words (Gen options) =
    IsTrue (is_taken words) × ((rows : List Row) × ((given_by words ≡ Some (codes "gen", rows)) × IsGen rows options))
AsksFor words (Cert options) =
    IsTrue (is_taken words)
    × ((rows : List Row) × ((given_by words ≡ Some (codes "cert", rows)) × (options ≡ cert_options rows)))
AsksFor words Check = IsTrue (is_taken words) × ((rows : List Row) × (given_by words ≡ Some (codes "check", rows)))

-- each number lies in its option's range
abbrev pub IsInRange : Command → Type 0
IsInRange (Run options) = (1 ≤ options.workers) × (options.workers ≤ 64) × (options.delay ≤ 16) × (options.narrow ≤ 8)
    × (options.oct ≤ 64) × (1 ≤ options.max_runs) × (options.max_runs ≤ 549755813888)
IsInRange (Order options) = ⊤
IsInRange (Gen options) =
    (options.seed ≤ 2147483647) × (1 ≤ options.size) × (options.size ≤ 1000) × (1 ≤ options.workers)
    × (options.workers ≤ 64)
IsInRange (Cert options) = (1 ≤ options.workers) × (options.workers ≤ 64) × (options.delay ≤ 16) × (options.narrow ≤ 8)
    × (options.oct ≤ 64) × (1 ≤ options.max_runs) × (options.max_runs ≤ 549755813888)
IsInRange Check = ⊤
