use Rattle.std.specs.Prelude.{◌+◌}
use Rattle.std.proofs.Common.{◌≡◌, ℕ, ◌<◌, ◌≤◌, None, get_or}
use Rattle.pk_octmat.specs.Bounds.{capped}
use Rattle.pk_octclose.proofs.tight.cap_all.Given as goal

abbrev pub invariant-loop-cell : goal.invariant-loop-cell
invariant-loop-cell g l = record {
  done : (k : ℕ) → k < l.cell-index → get_or l.cells k None ≡ capped (get_or l.fn.cells k None);
  rest : (k : ℕ) → l.cell-index ≤ k → get_or l.cells k None ≡ get_or l.fn.cells k None;
  steps : l.steps ≡ l.fn.steps + l.cell-index;
}
