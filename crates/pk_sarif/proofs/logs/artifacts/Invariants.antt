use Rattle.std.proofs.Common.{◌≡◌, ◌++◌, drop, map}
use Rattle.serde_json.specs.View.{view}
use Rattle.pk_sarif.specs.Logs.{artifact}
use Rattle.pk_sarif.proofs.logs.artifacts.Given as goal

abbrev pub invariant-loop-k : goal.invariant-loop-k
invariant-loop-k l = map view l.artifacts.items ++ map artifact (drop l.k l.shown) ≡ map artifact l.shown
