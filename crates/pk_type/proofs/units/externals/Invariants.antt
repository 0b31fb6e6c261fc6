use Rattle.std.proofs.Common.{◌≡◌, drop}
use Rattle.pk_ast.specs.Views.{external_trees}
use Rattle.pk_type.specs.Units.{after_externals}
use Rattle.pk_type.specs.Views.{defined_names, filed_in}
use Rattle.pk_type.specs.Rules.{noting}
use Rattle.pk_type.proofs.units.externals.Given as goal

abbrev pub invariant-loop-one : goal.invariant-loop-one
invariant-loop-one l =
    after_externals noting (defined_names l.defined) (external_trees (drop l.one-index l.list)) (filed_in l.file) ≡ after_externals noting (defined_names l.defined) (external_trees l.list) (filed_in l.initial.file)
