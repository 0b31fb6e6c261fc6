use Rattle.std.proofs.lemmas.Result.{IfOk-weaker}
use Rattle.pk_command.specs.CommandLine.{IsCommand}
use Rattle.pk_command.proofs.Adding.{behind, ok_is}
use Rattle.pk_command.proofs.definition.before.Goals as goal

pub returns : goal.returns
returns c = λ app sub command further.
    let made = c.in_ok-command.ensures in
    IfOk-weaker c.subcommand.result _ _ (λ r adds. behind c.in_ok-command.command c.in_ok-command.behind r app sub
    (ok_is (IsCommand app) c.args.command c.in_ok-command.command made.0 command)
    (ok_is (IsCommand sub) c.args.behind c.in_ok-command.behind made.1 further) adds) c.subcommand.ensures
