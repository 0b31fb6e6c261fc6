use Rattle.std.proofs.Common.{◌≡◌, ◌≤◌, length, drop, false}
use Rattle.pk_typed.specs.Views.{value_trees}
use Rattle.pk_lower_row.specs.Shapes.{any_makes}
use Rattle.pk_lower_expression.proofs.calls.last_making.Given as goal

abbrev pub invariant-loop-last : goal.invariant-loop-last
invariant-loop-last l = record { within : l.last ≤ length l.values; none_behind : any_makes (value_trees (drop l.last l.values)) ≡ false }

abbrev pub decreases-loop-last : goal.decreases-loop-last
decreases-loop-last l = l.last
