use Rattle.std.proofs.Common.{◌≡◌, refl, subst, ap, true, arith}
use Rattle.std.specs.Prelude.{◌==◌, if◌then◌else◌}
use Rattle.std.proofs.lemmas.Bool.Decides.{nat_tests}
use Rattle.pk_octops.specs.Tables.{join_of}
use Rattle.pk_octmarks.specs.declared.mark.Mark.TheVariants.{ClosedBut, Unknown}
use Rattle.pk_octmarks.specs.Marks.{IsMarked, joined}
use Rattle.pk_octmarks.proofs.Joins.{join_holds}
use Rattle.pk_octmarks.proofs.mark.Mark.joined.Goals as goal

pub returns-in-Closed-default-clause-holds : goal.returns-in-Closed-default-clause-holds
returns-in-Closed-default-clause-holds c = λ a b h g v f e.
    subst (λ k. IsMarked k (join_of a b)) (ap (λ s. joined s c.args.other) c.in-Closed-default.is-0) (join_holds c.args.self c.args.other a b h g v f e)

pub returns-in-ClosedBut-Closed-clause-holds : goal.returns-in-ClosedBut-Closed-clause-holds
returns-in-ClosedBut-Closed-clause-holds c = λ a b h g v f e.
    let value : joined c.args.self c.args.other ≡ ClosedBut c.in-ClosedBut-Closed.j = rw c.in-ClosedBut-Closed.is-0 (rw c.in-ClosedBut-Closed.is-1 refl) in
    subst (λ k. IsMarked k (join_of a b)) value (join_holds c.args.self c.args.other a b h g v f e)

pub returns-then-j-k-clause-holds : goal.returns-then-j-k-clause-holds
returns-then-j-k-clause-holds c = λ a b h g v f e.
    let j = c.in-ClosedBut-ClosedBut.j in
    let k = c.in-ClosedBut-ClosedBut.k in
    let same : j ≡ k = omega (arith, c.if-j-k.true) in
    let yes : (j == k) ≡ true = grind (arith, nat_tests) in
    let value : joined c.args.self c.args.other ≡ ClosedBut j = rw c.in-ClosedBut-ClosedBut.is-0 (rw c.in-ClosedBut-ClosedBut.is-1 (ap (λ s. if s then ClosedBut j else Unknown) yes)) in
    subst (λ k. IsMarked k (join_of a b)) value (join_holds c.args.self c.args.other a b h g v f e)
