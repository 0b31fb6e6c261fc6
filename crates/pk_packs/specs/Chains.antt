-- How long a chain of widening steps can be, with an octagon over each pack.
use Rattle.std.specs.Prelude.{◌≡◌, ℕ, ℤ, ◌+◌, ◌*◌, List, length}
use Rattle.std.specs.List.{sum_by}
use Rattle.pk_graph.specs.Graphs.{GraphOf, kinds_of}
use Rattle.pk_transfer.specs.Slots.{slot_types}
use Rattle.pk_thresh.specs.Chains.{chain_bound_of}
use Rattle.pk_thresh.specs.Thresholds.{AreThresholds}

-- how many bounds the octagons over these variables have
abbrev pub entries_of : List (List ℕ) → ℕ
entries_of packs = sum_by (λ (p : List ℕ). 4 * length p * length p) packs

-- the bound of a graph, with an octagon over each of these packs in place of one
abbrev pub IsChainBound : GraphOf → List (List ℕ) → ℕ → Type 0
IsChainBound g packs n =
    (ts : List ℤ) × AreThresholds g ts
    × (n ≡ chain_bound_of (length (slot_types (kinds_of g))) (length ts) 0 + entries_of packs)
