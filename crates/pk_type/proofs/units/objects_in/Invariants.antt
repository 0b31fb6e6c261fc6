-- What is left is counted on.
use Rattle.std.proofs.Common.{◌≡◌, ◌+◌, drop}
use Rattle.pk_ast.specs.Views.{external_trees}
use Rattle.pk_type.specs.Units.{objects_in}
use Rattle.pk_type.proofs.units.objects_in.Given as goal

abbrev pub invariant-loop-external : goal.invariant-loop-external
invariant-loop-external l = l.count + objects_in (external_trees (drop l.external-index l.list)) ≡ objects_in (external_trees l.list)
