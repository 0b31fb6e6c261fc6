use Rattle.std.proofs.Common.{◌+◌, ℕ, ◌∙◌, ap}
use Rattle.pk_graph.specs.OctagonVariables.{first_asked}
use Rattle.pk_packs.specs.Chains.{entries_of}
use Rattle.pk_packs.proofs.chains.chain_bound_packs.Goals as goal

-- an octagon over no variables has no bounds
pub returns-in-Some : goal.returns-in-Some
unfolding first_asked
returns-in-Some c =
    let one = c.in_ok-values.ensures in
    (one.0, one.1, c.in-Some.ensures ∙ ap (λ (n : ℕ). n + entries_of c.args.packs.now) one.2)
