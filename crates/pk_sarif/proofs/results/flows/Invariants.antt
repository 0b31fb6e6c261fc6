use Rattle.std.proofs.Common.{◌≡◌, ◌++◌, drop, map}
use Rattle.std.specs.List.{flat_map}
use Rattle.serde_json.specs.View.{view}
use Rattle.pk_sarif.specs.Results.{flows_by, flows}
use Rattle.pk_sarif.proofs.results.flows.Given as goal

-- the flows so far stand before those of the rest
abbrev pub invariant-loop-k : goal.invariant-loop-k
invariant-loop-k l =
    map view l.flows.items ++ flat_map (λ w. flows_by l.text l.operation w w.verdict) (drop l.k l.operation.ways) ≡ flows l.text l.operation
