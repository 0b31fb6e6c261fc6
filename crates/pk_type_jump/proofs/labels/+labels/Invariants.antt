-- What is left lists what the whole does.
use Rattle.std.proofs.Common.{◌≡◌, drop}
use Rattle.pk_ast.specs.Views.{item_trees}
use Rattle.pk_type_jump.specs.Labels.{listed_items}
use Rattle.pk_type_jump.specs.Views.{listed_in}
use Rattle.pk_type_jump.proofs.labels.+labels.Given as goal

abbrev pub invariant-items-loop-item : goal.invariant-items-loop-item
invariant-items-loop-item l =
    listed_items l.text l.within (listed_in l.labels) (item_trees (drop l.item-index l.list)) ≡ listed_items l.text l.initial.within (listed_in l.initial.labels) (item_trees l.list)
