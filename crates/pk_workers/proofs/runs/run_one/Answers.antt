use Rattle.std.proofs.Common.{◌∙◌}
use Rattle.std.specs.Prelude.{None, Some}
use Rattle.pk_workers.proofs.Spending.{just_same}
use Rattle.pk_workers.proofs.runs.run_one.Goals as goal

pub finish-requires-clause-tokens : goal.finish-requires-clause-tokens
finish-requires-clause-tokens g c κs within = just_same c.args.pass.now.view c.new_copies.new.pass.view (Some c.args.hold) None None c.in-Ok.ensures.tokens c.requires.tokens

pub returns-in-Ok : goal.returns-in-Ok
returns-in-Ok g c = record { of_board = c.finish.ensures.of_board ∙ c.in-Ok.ensures.of_board; ran = c.finish.ensures.ran; tokens = c.finish.ensures.tokens; runnable = c.finish.ensures.runnable; why = tt }

pub returns-in-Err : goal.returns-in-Err
returns-in-Err g c = record { of_board = c.in-Err.ensures.of_board; ran = tt; tokens = tt; runnable = tt; why = tt }
