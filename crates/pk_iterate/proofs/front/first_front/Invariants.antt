use Rattle.std.proofs.Common.{◌≡◌, map}
use Rattle.std.specs.Arc.{arc_value}
use Rattle.std.specs.List.{range_with_len}
use Rattle.pk_iterate.proofs.front.first_front.Given as goal

-- the first cells so far, each with no run
abbrev pub invariant-loop-e : goal.invariant-loop-e
invariant-loop-e g l = record {
  cells : map arc_value l.cells.items ≡ map (g.Y.System.meaning l.system).first (range_with_len 0 l.e);
  runs : l.runs.items ≡ map (λ _. 0) (range_with_len 0 l.e);
}
