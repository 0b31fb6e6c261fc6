use Rattle.std.proofs.Common.{◌≡◌, ◌<◌, ℕ, [], length, slice_index_or, All}
use Rattle.pk_plan.specs.Digraphs.{lists_of}
use Rattle.pk_board_tests.specs.Prepared.{MayRead}
use Rattle.pk_board_tests.proofs.plans.summing_over.Given as goal

-- the rows so far
abbrev pub invariant-loop-e : goal.invariant-loop-e
invariant-loop-e l = record {
  long : length l.rows.items ≡ l.e;
  each : (u : ℕ) → u < l.e → All (MayRead l.plan u) (slice_index_or (lists_of l.rows.items) u []);
}
