use Rattle.std.proofs.lemmas.Result.{IfOk-weaker}
use Rattle.pk_command.specs.CommandLine.{IsCommand}
use Rattle.pk_command.proofs.Adding.{added, ok_is}
use Rattle.pk_command.proofs.definition.with.Goals as goal

pub returns-in-Ok : goal.returns-in-Ok
returns-in-Ok c = λ app rule command option.
    IfOk-weaker c.arg.result _ _ (λ r adds. added c.in-Ok.command r c.args.option app rule (ok_is (IsCommand app) c.args.command c.in-Ok.command c.in-Ok.is command) option adds) c.arg.ensures
