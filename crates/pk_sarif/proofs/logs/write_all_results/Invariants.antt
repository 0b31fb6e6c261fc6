use Rattle.std.proofs.Common.{◌≡◌, ◌++◌, drop, false}
use Rattle.pk_sarif.specs.Logs.{all_results}
use Rattle.pk_sarif.specs.Texts.{listed}
use Rattle.pk_sarif.proofs.logs.write_all_results.Given as goal

-- what is written so far stands before what is left
abbrev pub invariant-loop-k : goal.invariant-loop-k
invariant-loop-k l =
    l.bytes.items ++ listed l.later (all_results (drop l.k l.shown)) ≡ l.initial.bytes.items ++ listed false (all_results l.shown)
