use Rattle.pk_plan.specs.Plans.{predecessors_of}
use Rattle.pk_core.specs.Events.{start_status}
use Rattle.pk_words.specs.Board.{low}
use Rattle.pk_board.proofs.Starting.{AreWords}
use Rattle.pk_board.proofs.starts.start_words.Given as goal

-- the words so far
abbrev pub invariant-loop-e : goal.invariant-loop-e
invariant-loop-e l = AreWords (λ u. low (start_status (predecessors_of l.plan u))) l.e l.words.items
