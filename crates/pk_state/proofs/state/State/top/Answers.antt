use Rattle.pk_state.proofs.Tops.{top_stays}
use Rattle.pk_state.proofs.state.State.top.Goals as goal

pub invariant_of-result : goal.invariant_of-result
invariant_of-result c =
    let layout = c.is_layout.ensures in
    let is = c.in_ok-facts.ensures in
    (layout, rw is (top_stays c.args.frame.now layout), λ e. absurd (cc))
