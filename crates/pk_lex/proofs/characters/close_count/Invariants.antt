use Rattle.std.proofs.Common.{◌≡◌, ◌+◌, false, drop}
use Rattle.std.specs.Option.{option_map}
use Rattle.pk_lex.proofs.StringLemmas.{string_run}
use Rattle.pk_lex.proofs.characters.close_count.Given as goal

abbrev pub invariant-loop-i : goal.invariant-loop-i
invariant-loop-i l = option_map (λ n. l.i + n) (string_run l.escaped (drop l.i l.text)) ≡ string_run false l.text
