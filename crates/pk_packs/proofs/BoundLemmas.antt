-- The bound on chains, with one pack and with one octagon.
use Rattle.std.proofs.Common.{◌≡◌, ◌+◌, ◌*◌, ℕ, ◌∙◌, sym, length, arith}
use Rattle.pk_graph.specs.Graphs.{kinds_of}
use Rattle.pk_graph.specs.OctagonVariables.{octagon_variables_of}
use Rattle.pk_transfer.specs.Slots.{slot_types}
use Rattle.pk_thresh.specs.Chains.{chain_bound_of}
use Rattle.pk_packs.specs.Laws.{OneOctagonBounds}

one_pack : (slots thresholds n : ℕ) → chain_bound_of slots thresholds 0 + (0 + 4 * n * n) ≡ chain_bound_of slots thresholds n
one_pack slots thresholds n = omega arith

pub one_octagon_bounds : OneOctagonBounds
one_octagon_bounds g n bound =
    let same = λ (thresholds : ℕ). one_pack (length (slot_types (kinds_of g))) thresholds (length (octagon_variables_of g n)) in (
      (λ b. (b.0, b.1, b.2 ∙ same (length b.0))),
      (λ b. (b.0, b.1, b.2 ∙ sym (same (length b.0)))),
    )
