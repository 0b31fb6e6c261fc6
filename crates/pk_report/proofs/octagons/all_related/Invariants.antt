use Rattle.std.proofs.Common.{◌≡◌, ◌<◌, ◌^◌, take, All}
use Rattle.pk_report.specs.Values.{related}
use Rattle.pk_report.proofs.octagons.all_related.Given as goal

abbrev pub invariant-loop-k : goal.invariant-loop-k
invariant-loop-k l = (l.list.items ≡ related l.state.layout (take l.k l.visible)) × All (λ x. x < 2 ^ 63) l.list.items
