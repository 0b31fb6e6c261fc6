use Rattle.clap.specs.declared.builder.command.Command.TheViews.{out-Command as fields_of}
use Rattle.pk_command.proofs.Settings.{program_is, program_is_local}
use Rattle.pk_command.proofs.definition.program.Goals as goal

pub returns-clause-app : goal.returns-clause-app
returns-clause-app c =
    program_is (fields_of c.new.result) (fields_of c.no_binary_name.result) (fields_of c.disable_help_flag.result) (fields_of c.disable_version_flag.result)
    (fields_of c.disable_help_subcommand.result) (fields_of c.subcommand_required.result)
    c.no_binary_name.ensures c.disable_help_flag.ensures c.disable_version_flag.ensures c.disable_help_subcommand.ensures c.subcommand_required.ensures c.new.ensures.app

pub returns-clause-local : goal.returns-clause-local
returns-clause-local c =
    program_is_local (fields_of c.new.result) (fields_of c.no_binary_name.result) (fields_of c.disable_help_flag.result) (fields_of c.disable_version_flag.result)
    (fields_of c.disable_help_subcommand.result) (fields_of c.subcommand_required.result)
    c.no_binary_name.ensures c.disable_help_flag.ensures c.disable_version_flag.ensures c.disable_help_subcommand.ensures c.subcommand_required.ensures c.new.ensures.local
