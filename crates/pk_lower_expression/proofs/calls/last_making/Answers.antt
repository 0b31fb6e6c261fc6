use Rattle.std.proofs.Common.{arith, ◌-◌, sym, ◌∙◌, ap}
use Rattle.pk_typed.specs.declared.values.Value.{Value}
use Rattle.pk_typed.specs.Views.{value_tree}
use Rattle.pk_lower_row.specs.Shapes.{makes}
use Rattle.pk_lower_expression.proofs.CallLemmas.{last_is, none_is}
use Rattle.pk_lower_expression.proofs.calls.last_making.Goals as goal

pub returns-then-makes : goal.returns-then-makes
returns-then-makes c = last_is c.args.values.now c.loop-last.last (c.loop-last.last - 1) c.index-values-last.result (omega arith) c.loop-last.invariant.within (ap (λ (v : Value). makes (value_tree v)) (sym c.index-values-last.is) ∙ (sym c.makes.ensures ∙ c.if-makes.true)) c.loop-last.invariant.none_behind

pub returns : goal.returns
returns c = none_is c.args.values.now c.loop-last.last (omega arith) c.loop-last.invariant.none_behind
