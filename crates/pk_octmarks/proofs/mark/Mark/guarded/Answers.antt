use Rattle.std.proofs.Common.{◌≡◌, sym, subst}
use Rattle.pk_octmarks.specs.Marks.{IsMarked, guarded}
use Rattle.pk_octmarks.proofs.Changes.{guard_holds}
use Rattle.pk_octmarks.proofs.mark.Mark.guarded.Goals as goal

pub returns-in-Some-None-clause-holds : goal.returns-in-Some-None-clause-holds
returns-in-Some-None-clause-holds c = λ m r z h g is e.
    let value : guarded c.args.self c.args.a c.args.b ≡ c.changed.result = rw c.in-Some-None.is-0 (rw c.in-Some-None.is-1 (sym c.changed.ensures)) in
    subst (λ k. IsMarked k r) value (guard_holds c.args.self m r c.args.a c.args.b z h g is e)

pub returns-in-Some-Some-clause-holds : goal.returns-in-Some-Some-clause-holds
returns-in-Some-Some-clause-holds c = λ m r z h g is e.
    let value : guarded c.args.self c.args.a c.args.b ≡ c.changed-in-Some-Some.result = rw c.in-Some-Some.is-0 (rw c.in-Some-Some.is-1 (sym c.changed-in-Some-Some.ensures)) in
    subst (λ k. IsMarked k r) value (guard_holds c.args.self m r c.args.a c.args.b z h g is e)
