use Rattle.std.proofs.Common.{◌≡◌, ◌++◌, drop, map}
use Rattle.serde_json.specs.View.{view}
use Rattle.pk_sarif.specs.Logs.{notification}
use Rattle.pk_sarif.proofs.logs.notifications.Given as goal

abbrev pub invariant-loop-k : goal.invariant-loop-k
invariant-loop-k l = map view l.notifications.items ++ map notification (drop l.k l.refused) ≡ map notification l.refused
