use Rattle.std.proofs.Common.{ap, sym, ◌∙◌, subst, to_z, of_z}
use Rattle.std.specs.Prelude.{ℤ}
use Rattle.std.specs.Int.{w128}
use Rattle.pk_octmat.specs.Octagon.{Octagon}
use Rattle.pk_octops.specs.Assigns.{assignment_of}
use Rattle.pk_octmarks.specs.Marks.{IsMarked}
use Rattle.pk_octagons.proofs.marked.Marked.assigned.Goals as goal

pub invariant_of-result : goal.invariant_of-result
invariant_of-result c =
    let z = to_z w128 (of_z w128 c.args.c) in
    let mark = c.assigned-mark.result in
    subst (IsMarked mark) (sym (c.in_ok-shared.ensures ∙ c.in_ok-m.ensures.is ∙ ap (λ (o : Octagon). assignment_of o c.args.k c.args.term z) c.deref.ensures))
    (subst (λ (o : Octagon). IsMarked c.self.inside.mark o → (y : ℤ) → IsMarked mark (assignment_of o c.args.k c.args.term y)) c.deref-2.ensures c.assigned-mark.ensures.holds c.self.invariant z)
