use Rattle.std.proofs.Common.{length, ◌-◌}
use Rattle.pk_plan.specs.Plans.{successors_of}
use Rattle.pk_board_tests.proofs.runs.+send_all.Given as goal

abbrev pub decreases-send_all : goal.decreases-send_all
decreases-send_all g l = length (successors_of l.board.now.subject.wiring.plan l.sending.element) - l.sending.sent
