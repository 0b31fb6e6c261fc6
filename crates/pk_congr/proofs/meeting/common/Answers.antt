use Rattle.std.specs.Prelude.{◌+◌, ◌-◌, ◌%◌, pos, ◌-ℤ◌}
use Rattle.std.proofs.Common.{arith}
use Rattle.std.proofs.lemmas.Int.{ints}
use Rattle.std.proofs.lemmas.Nat.{mod_below}
use Rattle.pk_congr.proofs.Multiples.{Multiple}
use Rattle.pk_congr.proofs.Solutions.{coprime, part_some, part_right, apart_below, room_below, sum_below, distance_is, distance_multiple, common_right}
use Rattle.pk_congr.proofs.meeting.common.Goals as goal

pub nonzero_div-m : goal.nonzero_div-m
nonzero_div-m c = (part_some c.args.m c.args.n c.args.g (omega arith) c.requires.divisor).0

pub nonzero_div-n : goal.nonzero_div-n
nonzero_div-n c = (part_some c.args.m c.args.n c.args.g (omega arith) c.requires.divisor).0

pub nonzero_div-apart : goal.nonzero_div-apart
nonzero_div-apart c = (part_some c.args.m c.args.n c.args.g (omega arith) c.requires.divisor).0

pub solution-requires-clause-apart : goal.solution-requires-clause-apart
solution-requires-clause-apart c = coprime c.args.m c.args.n c.args.g (omega arith) c.requires.divisor

pub solution-requires-clause-product : goal.solution-requires-clause-product
solution-requires-clause-product c =
    let left = part_some c.args.m c.args.n c.args.g (omega arith) c.requires.divisor in
    room_below c.args.m c.args.n c.args.g left.0 c.requires.room

pub solution-requires-clause-less : goal.solution-requires-clause-less
solution-requires-clause-less c =
    let left = part_some c.args.m c.args.n c.args.g (omega arith) c.requires.divisor in
    let right = part_right c.args.m c.args.n c.args.g (omega arith) c.requires.divisor in
    apart_below c.args.n c.args.g _ left.0 right (mod_below _ c.args.n (omega arith))

pub overflow_mul-result : goal.overflow_mul-result
overflow_mul-result c =
    let left = part_some c.args.m c.args.n c.args.g (omega arith) c.requires.divisor in
    let right = part_right c.args.m c.args.n c.args.g (omega arith) c.requires.divisor in
    let below = sum_below c.args.m c.args.n c.args.g c.args.r c.solution.result left.0 left.1 right c.requires.left c.solution.ensures.below in
    omega (arith, c.requires.room)

pub overflow_add-result : goal.overflow_add-result
overflow_add-result c =
    let left = part_some c.args.m c.args.n c.args.g (omega arith) c.requires.divisor in
    let right = part_right c.args.m c.args.n c.args.g (omega arith) c.requires.divisor in
    let below = sum_below c.args.m c.args.n c.args.g c.args.r c.solution.result left.0 left.1 right c.requires.left c.solution.ensures.below in
    omega (arith, c.requires.room)

pub returns-clause-left : goal.returns-clause-left
returns-clause-left c = (pos c.solution.result, omega (arith, ints))

pub returns-clause-right : goal.returns-clause-right
returns-clause-right c =
    let left = part_some c.args.m c.args.n c.args.g (omega arith) c.requires.divisor in
    let right = part_right c.args.m c.args.n c.args.g (omega arith) c.requires.divisor in
    let d = (c.args.s + (c.args.n - c.args.r % c.args.n)) % c.args.n in
    let k = distance_is c.args.r c.args.s c.args.n (omega arith) in
    let meets : Multiple (pos c.args.g) (pos c.args.s -ℤ pos c.args.r) = (c.requires.meets.0, omega (arith, ints, c.requires.meets.1)) in
    let whole = distance_multiple c.args.n c.args.g d (pos c.args.s) (pos c.args.r) k.0 left.0 right meets k.1 in
    common_right c.args.m c.args.n c.args.g c.args.r c.args.s d c.solution.result left.0 left.1 right whole c.solution.ensures.solves k

pub returns-clause-held : goal.returns-clause-held
returns-clause-held c =
    let left = part_some c.args.m c.args.n c.args.g (omega arith) c.requires.divisor in
    let right = part_right c.args.m c.args.n c.args.g (omega arith) c.requires.divisor in
    let below = sum_below c.args.m c.args.n c.args.g c.args.r c.solution.result left.0 left.1 right c.requires.left c.solution.ensures.below in
    omega (arith, c.requires.room)
