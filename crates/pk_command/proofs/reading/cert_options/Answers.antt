use Rattle.std.proofs.Common.{◌≤◌, arith, codes, lit≤}
use Rattle.clap.specs.Words.{found_of, rows_of}
use Rattle.pk_command.proofs.Taken.{found_wider, cert_in_range}
use Rattle.pk_command.proofs.reading.cert_options.Goals as goal

pub number-requires : goal.number-requires
number-requires c = found_wider (codes "delay") 0 16 549755813888 (rows_of (found_of c.args.found.now)) (lit≤ tt) c.requires.delay

pub number-requires-2 : goal.number-requires-2
number-requires-2 c = found_wider (codes "narrow") 0 8 549755813888 (rows_of (found_of c.args.found.now)) (lit≤ tt) c.requires.narrow

pub number-requires-3 : goal.number-requires-3
number-requires-3 c = found_wider (codes "oct") 0 64 549755813888 (rows_of (found_of c.args.found.now)) (lit≤ tt) c.requires.oct

pub number-requires-4 : goal.number-requires-4
number-requires-4 c = found_wider (codes "max-runs") 1 549755813888 549755813888 (rows_of (found_of c.args.found.now)) (lit≤ tt) c.requires.max_runs

pub overflow_cast-result : goal.overflow_cast-result
overflow_cast-result c =
    let range = cert_in_range (rows_of (found_of c.args.found.now)) c.requires in
    let small : c.number.result ≤ 16 = rw c.number.ensures range.2 in
    omega arith

pub overflow_cast-result-2 : goal.overflow_cast-result-2
overflow_cast-result-2 c =
    let range = cert_in_range (rows_of (found_of c.args.found.now)) c.requires in
    let small : c.number-2.result ≤ 8 = rw c.number-2.ensures range.3 in
    omega arith
