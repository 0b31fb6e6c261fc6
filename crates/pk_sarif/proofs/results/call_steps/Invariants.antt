use Rattle.std.proofs.Common.{◌≡◌, ◌++◌, drop, map}
use Rattle.serde_json.specs.View.{view}
use Rattle.pk_sarif.specs.Results.{call_steps}
use Rattle.pk_sarif.proofs.results.call_steps.Given as goal

-- the steps so far stand before those of the rest
abbrev pub invariant-loop-k : goal.invariant-loop-k
invariant-loop-k l =
    map view l.steps.items ++ call_steps l.text l.caller (drop l.k l.path.calls) ≡ call_steps l.text l.path.entry l.path.calls
