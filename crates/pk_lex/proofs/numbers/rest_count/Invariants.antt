use Rattle.std.proofs.Common.{◌≡◌, ◌+◌, drop}
use Rattle.pk_lex.proofs.NumberLemmas.{number_run}
use Rattle.pk_lex.proofs.numbers.rest_count.Given as goal

abbrev pub invariant-loop-i : goal.invariant-loop-i
invariant-loop-i l = l.i + number_run l.last (drop l.i l.text) ≡ number_run l.fn.before l.text
