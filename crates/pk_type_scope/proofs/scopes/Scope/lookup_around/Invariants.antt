-- Those that are left, the outer ones, decide.
use Rattle.std.proofs.Common.{◌≡◌, ◌≤◌, None, take, map, length}
use Rattle.pk_type_scope.specs.Scopes.{found_up, layer_of}
use Rattle.pk_type_scope.proofs.scopes.Scope.lookup_around.Given as goal

abbrev pub invariant-loop-left : goal.invariant-loop-left
invariant-loop-left l = record {
  within : l.left ≤ length l.self.outer.items;
  same : found_up (map layer_of (take l.left l.self.outer.items)) (record { is_tag = l.is_tag; bytes = l.bytes }) None
      ≡ found_up (map layer_of l.self.outer.items) (record { is_tag = l.is_tag; bytes = l.bytes }) None;
}

abbrev pub decreases-loop-left : goal.decreases-loop-left
decreases-loop-left l = l.left
