use Rattle.std.proofs.lemmas.Result.{IfOk-weaker}
use Rattle.pk_command.proofs.definition.command_line.Goals as goal

pub returns : goal.returns
returns c =
    IfOk-weaker c.before-program-5.result _ _ (λ r command. command.is)
    (c.before-program-5.ensures _ _
    (c.before-program-4.ensures _ _
    (c.before-program-3.ensures _ _
    (c.before-program-2.ensures _ _
    (c.before-program.ensures _ _ (record { is = c.program.ensures.app; local = c.program.ensures.local }) c.run_command.ensures)
    c.order_command.ensures)
    c.gen_command.ensures)
    c.cert_command.ensures)
    c.check_command.ensures)
