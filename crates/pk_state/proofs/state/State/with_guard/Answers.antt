use Rattle.std.proofs.Common.{to_z, of_z}
use Rattle.std.specs.Int.{w128}
use Rattle.pk_state.proofs.Changed.{changes_stay}
use Rattle.pk_state.proofs.state.State.with_guard.Goals as goal

pub invariant_of-result : goal.invariant_of-result
invariant_of-result c =
    let l = c.self.inside.frame.now in
    (c.self.invariant.0, rw c.in_ok-facts.ensures (changes_stay.guarded l c.self.inside.facts c.args.a c.args.b (to_z w128 (of_z w128 c.args.c)) c.args.over.now c.self.invariant.1 c.requires), λ e. absurd (cc))
