use Rattle.std.proofs.Common.{◌≡◌, drop}
use Rattle.pk_typed.specs.Views.{unit_tree}
use Rattle.pk_lower.specs.Parts.{sizes_of}
use Rattle.pk_lower.proofs.sizes.sizes.Given as goal

abbrev pub invariant-loop-path : goal.invariant-loop-path
invariant-loop-path l = l.sizes.items ≡ sizes_of (unit_tree l.unit) (drop l.path l.paths)
