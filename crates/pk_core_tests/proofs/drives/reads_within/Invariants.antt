use Rattle.std.proofs.Common.{ℕ, ◌<◌, All}
use Rattle.pk_core_tests.proofs.drives.reads_within.Given as goal

-- the elements so far
abbrev pub invariant-loop-e : goal.invariant-loop-e
invariant-loop-e g l = (k : ℕ) → k < l.e → All (λ (u : ℕ). u < l.elements) ((g.Y.System.meaning l.system).reads k)
