use Rattle.std.proofs.Common.{sym, subst}
use Rattle.std.specs.Arc.{arc_value}
use Rattle.pk_board.specs.Calls.{IsResetting}
use Rattle.pk_board.proofs.Restarting.{copies_same}
use Rattle.pk_board.proofs.boards.Board.again.Goals as goal

pub put_all-requires-clause-same : goal.put_all-requires-clause-same
put_all-requires-clause-same g c κs within = copies_same arc_value (arc_value c.copies.inside.first) c.copies.inside.further.items c.copies.invariant

pub returns-clause-is_resetting : goal.returns-clause-is_resetting
returns-clause-is_resetting g c =
    let plan = c.args.self.now.subject.wiring.plan in
    subst (IsResetting plan) (sym c.new.ensures) c.restart-members.ensures.resetting
