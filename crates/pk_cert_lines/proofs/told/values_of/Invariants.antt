use Rattle.std.proofs.Common.{◌≡◌, take}
use Rattle.pk_cert_lines.specs.Symbols.{values_in}
use Rattle.pk_cert_lines.proofs.told.values_of.Given as goal

abbrev pub invariant-loop-x : goal.invariant-loop-x
invariant-loop-x l = l.values.items ≡ take l.x (values_in l.state.facts)
