use Rattle.std.proofs.Common.{sym, ◌∙◌}
use Rattle.std.proofs.lemmas.Result.{IfOk-weaker}
use Rattle.std.specs.Arc.{arc_value}
use Rattle.pk_octops.proofs.Kept.{values_kept}
use Rattle.pk_octagons.proofs.closing.widen_shared.Goals as goal

pub returns-then-leq : goal.returns-then-leq
returns-then-leq c =
    let octagon = rw c.deref.ensures at c.is_octagon.ensures in
    let below = rw (c.deref-2.ensures, c.deref-3.ensures) at c.leq.ensures.value in
    let same = values_kept.widening_same (arc_value c.args.h.now) (arc_value c.args.n.now) octagon c.requires (below.0 c.if-leq.true) in
    IfOk-weaker c.try_clone.result _ _ (λ m h. h ∙ sym same) c.try_clone.ensures
