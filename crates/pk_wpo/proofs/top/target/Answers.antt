use Rattle.std.proofs.Common.{subst, sym, ℕ}
use Rattle.pk_plan.specs.Nests.{Holds}
use Rattle.pk_wpo.specs.Constraints.{exit_of}
use Rattle.pk_wpo.specs.Targets.{IsTarget, vertex as plain_vertex, exit_of_head}
use Rattle.pk_wpo.proofs.top.target.Goals as goal

pub returns-then-holds : goal.returns-then-holds
returns-then-holds c =
    subst (λ (b : ℕ). IsTarget (Holds c.args.layout.now.items) (exit_of c.args.layout.now.graph c.args.layout.now.items) c.args.u c.args.v b) (sym c.exit.ensures)
    (exit_of_head (c.holds.ensures.0 c.if-holds.true))

pub returns-else-holds : goal.returns-else-holds
returns-else-holds c = plain_vertex (λ x. let told = c.holds.ensures.1 x in let told' = c.if-holds.false in absurd (cc))
