-- What is left does what the whole does, and the scopes around the block are below those of its declarations.
use Rattle.std.proofs.Common.{◌≡◌, ◌≤◌, drop, take, length}
use Rattle.pk_ast.specs.Views.{item_trees}
use Rattle.pk_type_jump.specs.Jumps.{jumped_items}
use Rattle.pk_type_jump.specs.Views.{labels_in, around_of, jumped_in}
use Rattle.pk_type_jump.proofs.jumps.+jumps.Given as goal

abbrev pub invariant-items-loop-item : goal.invariant-items-loop-item
invariant-items-loop-item l =
    record {
      left : jumped_items l.text (labels_in l.labels) (around_of l.jumps.scopes.items l.here) (jumped_in l.jumps) (item_trees (drop l.item-index l.list))
          ≡ jumped_items l.text (labels_in l.labels) (around_of l.initial.jumps.scopes.items l.initial.here) (jumped_in l.initial.jumps) (item_trees l.list);
      longer : length l.initial.jumps.scopes.items ≤ length l.jumps.scopes.items;
      kept : take (length l.initial.jumps.scopes.items) l.jumps.scopes.items ≡ l.initial.jumps.scopes.items;
    }
