use Rattle.std.proofs.Common.{All}
use Rattle.pk_board_tests.specs.Prepared.{MayRead}
use Rattle.pk_board_tests.proofs.plans.row.Given as goal

abbrev pub invariant-loop-component : goal.invariant-loop-component
invariant-loop-component l = All (MayRead l.plan l.e) l.row.items

abbrev pub invariant-loop-u : goal.invariant-loop-u
invariant-loop-u l = All (MayRead l.plan l.e) l.row.items
