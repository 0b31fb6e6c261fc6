use Rattle.std.proofs.Common.{◌≡◌}
use Rattle.pk_board_tests.specs.Tokens.{HasNone}
use Rattle.pk_board_tests.proofs.walks.staged.Given as goal

abbrev pub invariant-loop-e : goal.invariant-loop-e
invariant-loop-e g l = record {
  of_board : l.pass.table ≡ l.initial.pass.table;
  none : HasNone l.pass.view;
}
