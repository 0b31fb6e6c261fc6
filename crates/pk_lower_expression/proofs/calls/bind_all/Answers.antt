use Rattle.std.proofs.Common.{arith, sym, ◌∙◌, ◌+◌, drop}
use Rattle.pk_typed.specs.Views.{value_trees}
use Rattle.pk_draft.specs.Shown.{drafted}
use Rattle.pk_lower_row.specs.Rows.{types_of}
use Rattle.pk_lower_expression.proofs.CallLemmas.{bound_no_values, bound_no_trees, bound_next}
use Rattle.pk_lower_expression.proofs.calls.bind_all.Goals as goal

pub returns-then-number-values : goal.returns-then-number-values
returns-then-number-values c = λ k.
    sym (bound_no_values k c.loop-number.number (c.args.first + c.loop-number.number) (drop c.loop-number.number c.args.parameters.now) c.args.values.now (drop c.loop-number.number c.args.trees.now) c.loop-number.number (drafted c.loop-number.draft) (omega arith)) ∙ c.loop-number.invariant k

pub returns-then-number-trees : goal.returns-then-number-trees
returns-then-number-trees c = λ k.
    sym (bound_no_trees k c.loop-number.number (c.args.first + c.loop-number.number) (drop c.loop-number.number c.args.parameters.now) (types_of (value_trees (drop c.loop-number.number c.args.values.now))) c.args.trees.now c.loop-number.number (drafted c.loop-number.draft) (omega arith)) ∙ c.loop-number.invariant k

pub loop-number-preserved : goal.loop-number-preserved
loop-number-preserved c = λ k.
    bound_next _ k c.args.first c.loop-number.number c.in_ok-variable.variable c.checked_add.result c.args.parameters.now c.args.values.now c.args.trees.now _ c.index-values-number.result c.index-trees-number.result c.loop-number.draft (drafted c.bind.new.draft) c.loop-number-test.true (omega arith) (omega arith) c.checked_add.ensures c.in_ok-variable.ensures.ok_part c.index-values-number.is c.index-trees-number.is c.in_ok-bind.ensures
    ∙ c.loop-number.invariant k
