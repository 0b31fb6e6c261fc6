use Rattle.std.proofs.Common.{◌≡◌, drop}
use Rattle.pk_page.specs.Functions.{last_called}
use Rattle.pk_page.proofs.functions.last_called.Given as goal

abbrev pub invariant-loop-k : goal.invariant-loop-k
invariant-loop-k l = last_called l.name (drop l.k l.path.calls) ≡ last_called l.path.entry l.path.calls
