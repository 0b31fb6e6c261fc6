use Rattle.std.proofs.Common.{◌≡◌, drop}
use Rattle.pk_ast.specs.Views.{external_trees}
use Rattle.pk_type.specs.Units.{defined_in}
use Rattle.pk_type.specs.Views.{defined_names}
use Rattle.pk_type.proofs.units.defined.Given as goal

abbrev pub invariant-loop-external : goal.invariant-loop-external
invariant-loop-external l = defined_in l.text (external_trees (drop l.external-index l.list)) (defined_names l.defined) ≡ defined_in l.text (external_trees l.list) (defined_names l.initial.defined)
