use Rattle.std.proofs.Common.{◌≤◌, arith, codes, lit≤}
use Rattle.clap.specs.Words.{found_of, rows_of}
use Rattle.pk_command.proofs.Taken.{found_wider, workers_in_range}
use Rattle.pk_command.proofs.reading.workers.Goals as goal

pub number-requires : goal.number-requires
number-requires c = found_wider (codes "workers") 1 64 549755813888 (rows_of (found_of c.args.found.now)) (lit≤ tt) c.requires

pub overflow_cast-result : goal.overflow_cast-result
overflow_cast-result c =
    let range = workers_in_range (rows_of (found_of c.args.found.now)) c.requires in
    let small : c.number.result ≤ 64 = rw c.number.ensures range.1 in
    omega arith
