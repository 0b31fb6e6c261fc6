use Rattle.std.proofs.Common.{◌∙◌, length, ap, arith}
use Rattle.pk_workers.proofs.Teams.{no_jobs, more_jobs, one_more}
use Rattle.pk_workers.proofs.workers.jobs.Goals as goal

pub loop-worker-init : goal.loop-worker-init
loop-worker-init g c =
    let none = c.new-jobs.ensures.items in
    record { of_board = c.requires.of_board; each = ap length none; jobs = no_jobs c.args.board.now.table c.new-jobs.result.items none }

pub loop-worker-preserved : goal.loop-worker-preserved
loop-worker-preserved g c =
    let table = c.args.board.now.table in
    let i = c.loop-worker.invariant in
    let s = c.in_ok-next_job.ensures in
    let items = c.in_ok-push.ensures.items in
    record {
      of_board = s.of_board ∙ i.of_board;
      each = one_more c.loop-worker.jobs.items c.push.new.self.items c.in_ok-next_job.field-0 c.loop-worker.worker items i.each;
      jobs = more_jobs table c.loop-worker.jobs.items c.push.new.self.items c.in_ok-next_job.field-0 c.loop-worker.pass i.jobs items i.of_board s.job;
    }

pub returns : goal.returns
returns g c =
    let i = c.loop-worker.invariant in
    record { each = omega (arith, i.each, c.loop-worker-test.false, c.loop-worker.auto.worker-end); jobs = i.jobs }
