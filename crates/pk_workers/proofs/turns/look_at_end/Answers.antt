use Rattle.std.proofs.Common.{refl, ap}
use Rattle.pk_plan.specs.Plans.{end_of}
use Rattle.pk_workers.proofs.Spending.{noted_same}
use Rattle.pk_workers.proofs.turns.look_at_end.Goals as goal

pub returns-then-is_some : goal.returns-then-is_some
returns-then-is_some g c = record { of_board = refl; tokens = record { holds = refl; sends = refl; resets = refl }; ended = tt }

pub returns-in-Ok : goal.returns-in-Ok
returns-in-Ok g c =
    let e = c.in-Ok.ensures in
    record {
      of_board = e.of_board;
      tokens = record { holds = ap (λ v. v.holds) e.finished.view; sends = ap (λ v. v.sends) e.finished.view; resets = ap (λ v. v.resets) e.finished.view };
      ended = ap (λ v. v.ended) e.finished.view;
    }

pub returns-in-Err : goal.returns-in-Err
returns-in-Err g c =
    let e = c.in-Err.ensures in
    record {
      of_board = e.of_board;
      tokens = noted_same (end_of c.args.board.now.subject.wiring.plan) c.in-Err.field-0.word c.args.pass.now.view c.finished.new.pass.view e.seen.view;
      ended = tt;
    }
