use Rattle.std.proofs.Common.{◌≡◌, ◌*◌, ◌∙◌, ap, sym, subst, arith, Some}
use Rattle.std.specs.Prelude.{ℕ}
use Rattle.pk_octops.specs.Assigns.{assignment_of}
use Rattle.pk_octmarks.specs.declared.mark.Mark.TheVariants.{Closed}
use Rattle.pk_octmarks.specs.Marks.{IsMarked, forgotten}
use Rattle.pk_octmarks.proofs.Changes.{forgotten_holds}
use Rattle.pk_octmarks.proofs.Gains.{assigned_holds, gained_holds}
use Rattle.pk_octmarks.proofs.mark.Mark.assigned.Goals as goal

pub returns-then-is_far-clause-holds : goal.returns-then-is_far-clause-holds
returns-then-is_far-clause-holds c = λ is z.
    let m = c.args.m.now in
    let closed : c.args.self ≡ Closed = c.is_closed.ensures.0 c.if-is_closed.true in
    let same : c.in-Some.t ≡ 2 * c.args.k = omega (arith, c.if-t-k.true) in
    let term : c.args.term ≡ Some (2 * c.args.k) = c.in-Some.is ∙ ap (λ (t : ℕ). Some t) same in
    subst (λ k. IsMarked k (assignment_of m c.args.k c.args.term z)) (sym closed)
    (subst (λ t. IsMarked Closed (assignment_of m c.args.k t z)) (sym term)
    (gained_holds m c.args.k z c.is_octagon.ensures c.requires.variable (c.is_far.ensures.0 c.if-is_far.true) (subst (λ k. IsMarked k m) closed is)))

pub returns-in-None-clause-holds : goal.returns-in-None-clause-holds
returns-in-None-clause-holds c = λ is z.
    let m = c.args.m.now in
    subst (λ k. IsMarked k (assignment_of m c.args.k c.args.term z)) (sym c.forgotten.ensures)
    (subst (λ t. IsMarked (forgotten c.args.self c.args.k) (assignment_of m c.args.k t z)) (sym c.in-None.is)
    (forgotten_holds c.args.self m c.args.k c.is_octagon.ensures c.requires.variable is))

pub returns-else-is_closed-clause-holds : goal.returns-else-is_closed-clause-holds
returns-else-is_closed-clause-holds c = λ is z.
    let m = c.args.m.now in
    subst (λ k. IsMarked k (assignment_of m c.args.k c.args.term z)) (sym c.changed.ensures)
    (assigned_holds c.args.self m c.args.k c.args.term z c.is_octagon.ensures c.requires.variable is)
