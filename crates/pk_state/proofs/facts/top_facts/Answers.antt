use Rattle.std.proofs.Common.{subst, sym}
use Rattle.pk_octagons.specs.Values.{AreMarked}
use Rattle.pk_state.proofs.Tops.{top_marked}
use Rattle.pk_state.proofs.facts.top_facts.Goals as goal

pub invariant_of-result : goal.invariant_of-result
invariant_of-result c =
    let vs = c.in_ok-top_values.field-0 in
    subst (AreMarked vs) (sym c.new.ensures.items) (top_marked vs c.args.frame.now.types c.in_ok-top_values.ensures)
