use Rattle.std.proofs.Common.{sym, subst}
use Rattle.pk_workers.specs.Answers.{IsExceeded}
use Rattle.pk_workers.proofs.Results.{is_result, is_exceeded}
use Rattle.pk_workers.proofs.workers.parts.Goals as goal

pub returns-in-Finished-clause-ok : goal.returns-in-Finished-clause-ok
returns-in-Finished-clause-ok g c =
    let left = c.close_parts.ensures in
    record {
      outcome = left.outcome;
      result = is_result (g.Y.System.meaning c.args.board.subject.system) c.args.board.subject.wiring left.outcome left.left;
      made = left.made;
    }

pub returns-in-Stopped-clause-err : goal.returns-in-Stopped-clause-err
returns-in-Stopped-clause-err g c =
    let b = g.Y.System.meaning c.args.board.subject.system in
    let w = c.args.board.subject.wiring in
    subst (IsExceeded b w.plan w.limit) (sym c.failure.ensures) (is_exceeded b w c.abandon.result c.abandon.ensures.cause)
