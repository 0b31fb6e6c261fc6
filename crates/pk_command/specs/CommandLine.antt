-- The command line, as a value of clap's: the commands, their options, and which words are taken.
use Rattle.std.specs.Prelude.{◌≡◌, ℕ, Bool, true, false, pos, List, [], ◌∷◌, ◌++◌, codes, fold, Some}
use Rattle.clap.specs.Words.{App, Rule, Shape, Text, app_of, fault_of, new_app, new_rule, rule_of, with_rule, with_subcommand}
use Rattle.clap.specs.Kinds.{Kinds}
use Rattle.clap.specs.declared.builder.arg.Arg.{Arg}
use Rattle.clap.specs.declared.builder.command.Command.{Command}
use Rattle.clap.specs.declared.builder.command.Command.TheViews.{out-Command as fields_of}
use Rattle.clap.specs.declared.builder.ArgAction.TheVariants.{Set, SetTrue}
use Rattle.clap.specs.declared.builder.value_parser.ValueParser.TheVariants as parser

-- `--NAME N`, a number from `least` to `most`
abbrev pub number_option : Text → ℕ → ℕ → Rule
number_option name least most =
    record (new_rule name) {
      long = Some name;
      action = Some Set;
      parser = Some (parser.Signed (pos least) (pos most));
    }

-- the same, where the option has to be given
abbrev pub required_number : Text → ℕ → ℕ → Rule
required_number name least most = record (number_option name least most) { required = true }

-- `--NAME TEXT`, any text
abbrev pub text_option : Text → Rule
text_option name = record (new_rule name) { long = Some name; action = Some Set; parser = Some parser.String }

-- `--NAME`
abbrev pub flag : Text → Rule
flag name = record (new_rule name) { long = Some name; action = Some SetTrue }

abbrev pub workers_option : Rule
workers_option = number_option (codes "workers") 1 64

abbrev pub entry_option : Rule
entry_option = text_option (codes "entry")

-- a command, with its options
abbrev pub command : Text → List Rule → App
command name options = fold with_rule (new_app name) options

abbrev pub run_number_options : List Rule
run_number_options = workers_option
    ∷ number_option (codes "delay") 0 16
    ∷ number_option (codes "narrow") 0 8
    ∷ number_option (codes "oct") 0 64
    ∷ number_option (codes "max-runs") 1 549755813888
    ∷ []

-- `run [--workers N] [--delay D] [--narrow K] [--oct N] [--max-runs N] [--entry NAME] [--points] [--lean] [--packs]`
abbrev pub run_app : App
run_app = command (codes "run")
    (run_number_options ++ entry_option ∷ flag (codes "points") ∷ flag (codes "lean") ∷ flag (codes "packs") ∷ [])

-- `order [--entry NAME] [--peak]`
abbrev pub order_app : App
order_app = command (codes "order") (entry_option ∷ flag (codes "peak") ∷ [])

-- `gen --seed S --size N [--workers N]`
abbrev pub gen_app : App
gen_app = command (codes "gen") (required_number (codes "seed") 0 2147483647
    ∷ required_number (codes "size") 1 1000
    ∷ workers_option
    ∷ [])

-- `cert [--workers N] [--delay D] [--narrow K] [--oct N] [--max-runs N] [--entry NAME]`
abbrev pub cert_app : App
cert_app = command (codes "cert") (run_number_options ++ entry_option ∷ [])

-- `check`
abbrev pub check_app : App
check_app = command (codes "check") []

-- a command is required; the words leave out the program's name, and nothing asks for help or a version
abbrev pub program_shape : Shape
program_shape = record (new_app (codes "pikos")).top {
  no_binary_name = true;
  disable_help_flag = true;
  disable_version_flag = true;
  disable_help_subcommand = true;
  subcommand_required = true;
}

abbrev pub program_app : App
program_app = record { top = program_shape; subs = [] }

abbrev pub pikos_app : App
pikos_app =
    with_subcommand (with_subcommand (with_subcommand (with_subcommand (with_subcommand program_app
    run_app.top) order_app.top) gen_app.top) cert_app.top) check_app.top

abbrev pub is_empty : Kinds → Bool
is_empty [] = true
is_empty (fault ∷ faults) = false

-- the words are taken: clap's definition finds no fault in them
unfoldable pub is_taken : List Text → Bool
is_taken words = is_empty (fault_of pikos_app words)

-- a command of clap's takes what this definition says, and has no global option
pub record IsCommand (app : App) (c : Command) : Type 0 where
  pub is : app_of c ≡ app
  pub local : (fields_of c).has_globals ≡ false

-- an option of clap's has this rule, and isn't global
pub record IsOption (rule : Rule) (o : Arg) : Type 0 where
  pub is : rule_of o ≡ rule
  pub local : o.global ≡ false
