use Rattle.std.proofs.Common.{arith, codes, lit≤}
use Rattle.clap.specs.Words.{found_of, rows_of}
use Rattle.pk_command.proofs.Taken.{given_in_range, required_wider}
use Rattle.pk_command.proofs.reading.gen_options.Goals as goal

pub required-requires : goal.required-requires
required-requires c = required_wider (codes "seed") 0 2147483647 549755813888 (rows_of (found_of c.args.found.now)) (lit≤ tt) c.requires.seed

pub required-requires-2 : goal.required-requires-2
required-requires-2 c = required_wider (codes "size") 1 1000 549755813888 (rows_of (found_of c.args.found.now)) (lit≤ tt) c.requires.size

pub overflow_cast-result : goal.overflow_cast-result
overflow_cast-result c =
    let range = given_in_range (codes "seed") 0 2147483647 c.required.result (rows_of (found_of c.args.found.now)) c.requires.seed.number c.required.ensures in
    omega (arith, range.1)

pub overflow_cast-result-2 : goal.overflow_cast-result-2
overflow_cast-result-2 c =
    let range = given_in_range (codes "size") 1 1000 c.required-2.result (rows_of (found_of c.args.found.now)) c.requires.size.number c.required-2.ensures in
    omega (arith, range.1)
