use Rattle.std.proofs.Common.{◌<◌, ℕ}
use Rattle.pk_typed.specs.Views.{unit_tree}
use Rattle.pk_calls.specs.Calls.{IsNamed}
use Rattle.pk_calls.proofs.functions.entry.Given as goal

abbrev pub invariant-loop-f : goal.invariant-loop-f
invariant-loop-f l = (g : ℕ) → g < l.f → IsNamed (unit_tree l.unit) l.name g → ⊥
