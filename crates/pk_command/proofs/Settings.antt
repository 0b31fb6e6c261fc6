-- What the program's settings make of a new command.
use Rattle.std.proofs.Common.{◌≡◌, ◌∙◌, ap, true, false, codes}
use Rattle.clap.specs.declared.builder.command.Command.{Command}
use Rattle.clap.specs.declared.builder.command.Command.TheOpen.{Command-F}
use Rattle.clap.specs.Simple.{App, app_of_fields, new_app}
use Rattle.pk_command.specs.CommandLine.{program_app}

-- each of these commands is the one before it with one more setting
record AreSet (a b c d e f : Command-F Command) : Type 0 where
  first : b ≡ record a { no_binary_name = true }
  second : c ≡ record b { disable_help_flag = true }
  third : d ≡ record c { disable_version_flag = true }
  fourth : e ≡ record d { disable_help_subcommand = true }
  fifth : f ≡ record e { subcommand_required = true }

all_set : (a b c d e f : Command-F Command) → AreSet a b c d e f
    → f ≡ record a { no_binary_name = true; disable_help_flag = true; disable_version_flag = true; disable_help_subcommand = true; subcommand_required = true }
all_set a b c d e f set =
    set.fifth
    ∙ ap (λ (x : Command-F Command). record x { subcommand_required = true }) set.fourth
    ∙ ap (λ (x : Command-F Command). record x { disable_help_subcommand = true; subcommand_required = true }) set.third
    ∙ ap (λ (x : Command-F Command). record x { disable_version_flag = true; disable_help_subcommand = true; subcommand_required = true }) set.second
    ∙ ap (λ (x : Command-F Command). record x { disable_help_flag = true; disable_version_flag = true; disable_help_subcommand = true; subcommand_required = true }) set.first

pub program_is : (a b c d e f : Command-F Command) → b ≡ record a { no_binary_name = true } → c ≡ record b { disable_help_flag = true } → d ≡ record c { disable_version_flag = true }
    → e ≡ record d { disable_help_subcommand = true } → f ≡ record e { subcommand_required = true } → app_of_fields a ≡ new_app (codes "pikos") → app_of_fields f ≡ program_app
program_is a b c d e f first second third fourth fifth new =
    ap app_of_fields (all_set a b c d e f (record { first = first; second = second; third = third; fourth = fourth; fifth = fifth }))
    ∙ ap (λ (x : App). record x { top = record x.top { no_binary_name = true; disable_help_flag = true; disable_version_flag = true; disable_help_subcommand = true; subcommand_required = true } }) new

pub program_is_local : (a b c d e f : Command-F Command) → b ≡ record a { no_binary_name = true } → c ≡ record b { disable_help_flag = true } → d ≡ record c { disable_version_flag = true }
    → e ≡ record d { disable_help_subcommand = true } → f ≡ record e { subcommand_required = true } → a.has_globals ≡ false → f.has_globals ≡ false
program_is_local a b c d e f first second third fourth fifth new =
    ap (λ (x : Command-F Command). x.has_globals) (all_set a b c d e f (record { first = first; second = second; third = third; fourth = fourth; fifth = fifth })) ∙ new
