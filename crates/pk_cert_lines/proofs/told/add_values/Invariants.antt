use Rattle.std.proofs.Common.{ℕ, List, ◌++◌, take}
use Rattle.pk_cert_lines.specs.Symbols.{values_in}
use Rattle.pk_cert_lines.specs.Told.{AreParts, texts_at}
use Rattle.pk_cert_lines.proofs.told.add_values.Given as goal

abbrev pub invariant-loop-p : goal.invariant-loop-p
invariant-loop-p l =
    (parts : List (List ℕ)) → AreParts parts l.initial.text.items l.initial.sizes.items → AreParts (parts ++ take l.p (texts_at l.order (values_in l.state.facts))) l.text.items l.sizes.items
