use Rattle.std.proofs.Common.{arith, rules, ◌≡◌, ◌+◌, ◌-◌, int_le, FitsSigned, IsSorted, get_or}
use Rattle.std.specs.Prelude.{pos}
use Rattle.std.specs.Int.{w128}
use Rattle.std.specs.Ordering.{int_cmp}
use Rattle.std.proofs.lemmas.Int.{to_z-of_z}
use Rattle.std.proofs.lemmas.List.Sorted.{IsPartitionPoint-from_clause}
use Rattle.pk_interval.proofs.NextThresholds.{down_at, down_past, parted_to}
use Rattle.pk_interval.proofs.widening.down.Goals as goal

pub returns-then-i-eq0 : goal.returns-then-i-eq0
returns-then-i-eq0 c =
    let cs = c.args.thresholds.now in
    let x = c.args.x in
    let sorted : IsSorted int_cmp cs = c.requires in
    let part = IsPartitionPoint-from_clause (λ y. int_le y x) cs c.partition_point-i.result c.partition_point-i.ensures.partitioned (parted_to cs x sorted) (λ a r f q. search rules) in
    let value = down_past c.args.t cs x c.partition_point-i.result part c.if-i-eq0.true in
    let fits : FitsSigned w128 c.range-low.result.0 = search rules in
    let first = to_z-of_z w128 c.range-low.result.0 fits in
    let end = c.range-low.ensures.low in
    cc

pub returns-else-i-eq0 : goal.returns-else-i-eq0
returns-else-i-eq0 c =
    let cs = c.args.thresholds.now in
    let x = c.args.x in
    let sorted : IsSorted int_cmp cs = c.requires in
    let part = IsPartitionPoint-from_clause (λ y. int_le y x) cs c.partition_point-i.result c.partition_point-i.ensures.partitioned (parted_to cs x sorted) (λ a r f q. search rules) in
    let some : c.partition_point-i.result ≡ (c.partition_point-i.result - 1) + 1 = omega arith in
    let value = down_at c.args.t cs x (c.partition_point-i.result - 1) c.partition_point-i.result (pos 0) sorted part some c.partition_point-i.ensures.bound in
    let fits2 : FitsSigned w128 c.max.result = search rules in
    let fits3 : FitsSigned w128 c.range-low.result.0 = search rules in
    let made = to_z-of_z w128 c.max.result fits2 in
    let first = to_z-of_z w128 c.range-low.result.0 fits3 in
    let end = c.range-low.ensures.low in
    let most = c.max.ensures.value in
    let fits : FitsSigned w128 (get_or cs (c.partition_point-i.result - 1) (pos 0)) = search rules in
    let read = to_z-of_z w128 (get_or cs (c.partition_point-i.result - 1) (pos 0)) fits in
    cc
