use Rattle.std.proofs.Common.{arith, rules, ◌<◌, int_lt, length, FitsSigned, IsSorted}
use Rattle.std.specs.Int.{w128}
use Rattle.std.specs.Ordering.{int_cmp}
use Rattle.std.proofs.lemmas.Int.{to_z-of_z}
use Rattle.std.proofs.lemmas.List.Sorted.{IsPartitionPoint-from_clause}
use Rattle.pk_interval.proofs.NextThresholds.{up_at, up_past, parted_below}
use Rattle.pk_interval.proofs.widening.up.Goals as goal

pub returns-in-Some : goal.returns-in-Some
returns-in-Some c =
    let cs = c.args.thresholds.now in
    let x = c.args.x in
    let at = c.in-Some.ensures.lookup in
    let sorted : IsSorted int_cmp cs = c.requires in
    let part = IsPartitionPoint-from_clause (λ y. int_lt y x) cs c.partition_point-i.result c.partition_point-i.ensures.partitioned (parted_below cs x sorted) (λ a r f q. search rules) in
    let here : c.partition_point-i.result < length cs = omega (arith, at.3.0) in
    let value = up_at c.args.t cs x c.partition_point-i.result c.in-Some.c.now sorted part here in
    let fits : FitsSigned w128 c.in-Some.c.now = search rules in
    let fits2 : FitsSigned w128 c.min.result = search rules in
    let fits3 : FitsSigned w128 c.range-high.result.1 = search rules in
    let read = to_z-of_z w128 c.in-Some.c.now fits in
    let made = to_z-of_z w128 c.min.result fits2 in
    let last = to_z-of_z w128 c.range-high.result.1 fits3 in
    let end = c.range-high.ensures.high in
    let least = c.min.ensures.value in
    let found = at.1 in
    cc

pub returns-in-None : goal.returns-in-None
returns-in-None c =
    let cs = c.args.thresholds.now in
    let x = c.args.x in
    let at = c.in-None.ensures.lookup in
    let sorted : IsSorted int_cmp cs = c.requires in
    let part = IsPartitionPoint-from_clause (λ y. int_lt y x) cs c.partition_point-i.result c.partition_point-i.ensures.partitioned (parted_below cs x sorted) (λ a r f q. search rules) in
    let value = up_past c.args.t cs x c.partition_point-i.result part (omega (arith, at.3)) in
    let fits : FitsSigned w128 c.range-high.result.1 = search rules in
    let last = to_z-of_z w128 c.range-high.result.1 fits in
    let end = c.range-high.ensures.high in
    cc
