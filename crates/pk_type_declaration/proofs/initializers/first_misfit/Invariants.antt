-- What is left does what the whole does.
use Rattle.std.proofs.Common.{◌≡◌, drop}
use Rattle.pk_ast.specs.Views.{initializer_item_trees}
use Rattle.pk_type_declaration.specs.Rules.{first_misfit}
use Rattle.pk_type_declaration.proofs.initializers.first_misfit.Given as goal

abbrev pub invariant-loop-item : goal.invariant-loop-item
invariant-loop-item l = first_misfit l.left (initializer_item_trees (drop l.item-index l.list)) ≡ first_misfit l.fn.length (initializer_item_trees l.list)
