-- How long a chain of widening steps can be.
use Rattle.std.specs.Prelude.{◌≡◌, ℕ, ℤ, ◌+◌, ◌*◌, List, length}
use Rattle.pk_graph.specs.Graphs.{GraphOf, kinds_of}
use Rattle.pk_graph.specs.OctagonVariables.{octagon_variables_of}
use Rattle.pk_transfer.specs.Slots.{slot_types}
use Rattle.pk_thresh.specs.Thresholds.{AreThresholds}

-- Of so many slots, thresholds and octagon variables: each interval moves twice the thresholds and one, each congruence has at most 66 steps, each bound of the octagon goes once.
abbrev pub chain_bound_of : (slots thresholds octagon : ℕ) → ℕ
chain_bound_of slots thresholds octagon = 1 + slots * (2 * (thresholds + 1) + 66) + 4 * octagon * octagon

-- the bound of a graph, whose slots all count, those of an array of at most eight elements one by one, with the octagon over its first `oct` variables
abbrev pub IsChainBound : GraphOf → ℕ → ℕ → Type 0
IsChainBound g oct n =
    (ts : List ℤ) × AreThresholds g ts
    × (n ≡ chain_bound_of (length (slot_types (kinds_of g))) (length ts) (length (octagon_variables_of g oct)))
