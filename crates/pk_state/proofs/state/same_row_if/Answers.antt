use Rattle.std.proofs.Common.{subst}
use Rattle.pk_state.specs.Facts.{AreFactsIf}
use Rattle.pk_state.proofs.Rows.{alike_some, alike_values}
use Rattle.pk_state.proofs.state.same_row_if.Goals as goal

pub returns-in-Some-b : goal.returns-in-Some-b
returns-in-Some-b c =
    let f = c.in-Some.left in
    let g = c.in-Some-b.right in
    let size = (subst (AreFactsIf c.args.frame.now) c.in-Some.is c.requires.left).values.size in
    rw c.in-Some.is (rw c.in-Some-b.is
    (λ e. alike_some f g c.args.x _ size (c.same_row_facts.ensures.0 e), λ h. c.same_row_facts.ensures.1 (alike_values f g c.args.x _ size h)))
