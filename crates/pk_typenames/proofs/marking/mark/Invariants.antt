use Rattle.std.proofs.Common.{◌≤◌, option_map}
use Rattle.pk_typenames.specs.Spellings.{layer_of}
use Rattle.pk_typenames.proofs.PlaceLemmas.{Marking}
use Rattle.pk_typenames.proofs.marking.mark.Given as goal

abbrev pub invariant-loop-i : goal.invariant-loop-i
invariant-loop-i l = Marking l.text l.initial.tokens l.tokens l.i (layer_of l.types) l.braces l.within (option_map (λ n. n.now) l.pending) × (l.braces ≤ l.i)
