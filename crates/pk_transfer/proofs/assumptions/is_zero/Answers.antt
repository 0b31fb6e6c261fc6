use Rattle.std.specs.Prelude.{ℕ}
use Rattle.std.specs.Result.{IfOk}
use Rattle.std.proofs.Common.{ap, subst, sym, ◌∙◌}
use Rattle.pk_ctypes.specs.declared.types.Op.TheVariants.{Eq, Ne}
use Rattle.pk_graph.specs.Trees.{TreeOf}
use Rattle.pk_graph.specs.Views.{tree_view}
use Rattle.pk_transfer.specs.Assignments.{HasFacts}
use Rattle.pk_transfer.specs.Assumptions.{holds_in}
use Rattle.pk_transfer.specs.Guards.{Condition, is_zero}
use Rattle.pk_transfer.proofs.assumptions.is_zero.Goals as goal

pub returns-then-sense : goal.returns-then-sense
returns-then-sense c =
    let s = c.args.state in
    let e = tree_view c.args.e.now in
    let compared : TreeOf ℕ → Condition = λ z. record { op = Ne; left = e; right = z } in
    subst (λ (k : Condition). IfOk c.holds.result (HasFacts s (holds_in s.layout s.facts k)))
    (ap compared c.requires.zero ∙ ap (is_zero e) (sym c.if-sense.true)) c.holds.ensures

pub returns-else-sense : goal.returns-else-sense
returns-else-sense c =
    let s = c.args.state in
    let e = tree_view c.args.e.now in
    let compared : TreeOf ℕ → Condition = λ z. record { op = Eq; left = e; right = z } in
    subst (λ (k : Condition). IfOk c.holds-else-sense.result (HasFacts s (holds_in s.layout s.facts k)))
    (ap compared c.requires.zero ∙ ap (is_zero e) (sym c.if-sense.false)) c.holds-else-sense.ensures
