use Rattle.std.proofs.Common.{◌∙◌, ◌++◌, ap, subst}
use Rattle.pk_graph.specs.declared.graphs.Variable.{Variable}
use Rattle.pk_graph.specs.Graphs.{variable_view}
use Rattle.pk_octagons.specs.Values.{IsValue}
use Rattle.pk_transfer.specs.Slots.{further_types}
use Rattle.pk_analysis.specs.Starts.{own_known, further_known, AreTyped}
use Rattle.pk_analysis.proofs.StartLemmas.{own_more, further_begun, further_more, further_whole}
use Rattle.pk_analysis.proofs.starts.values.Goals as goal

pub loop-variable-preserved : goal.loop-variable-preserved
loop-variable-preserved c =
    own_more c.args.variables.now c.loop-variable.variable-index _ c.loop-variable.values.items c.push.new.self.items c.own.result c.loop-variable-test.true c.loop-variable.invariant
    (c.own.ensures.value ∙ ap (λ (v : Variable). own_known (variable_view v)) c.variable-item.is)
    (subst (λ (v : Variable). IsValue (variable_view v).kind.int_type c.own.result) c.variable-item.is c.own.ensures.inside) c.in_ok-push.ensures.items

pub loop-variable-2-init : goal.loop-variable-2-init
loop-variable-2-init c = further_begun c.args.variables.now c.loop-variable.variable-index c.loop-variable.values.items c.loop-variable-test.false c.loop-variable.invariant

pub loop-variable-2-preserved : goal.loop-variable-2-preserved
loop-variable-2-preserved c =
    further_more c.args.variables.now c.loop-variable-2.variable-index _ c.loop-variable-2.values.items c.push_further.new.values.items c.loop-variable-2-test.true c.loop-variable-2.invariant
    (c.in_ok-push_further.ensures.values ∙ ap (λ (v : Variable). c.loop-variable-2.values.items ++ further_known (variable_view v)) c.variable-item-in-loop-variable-2.is)
    (subst (λ (v : Variable). AreTyped (further_known (variable_view v)) (further_types (variable_view v).kind)) c.variable-item-in-loop-variable-2.is c.in_ok-push_further.ensures.inside)

pub returns-clause-values : goal.returns-clause-values
returns-clause-values c = (further_whole c.args.variables.now c.loop-variable-2.variable-index c.loop-variable-2.values.items c.loop-variable-2-test.false c.loop-variable-2.invariant).0

pub returns-clause-inside : goal.returns-clause-inside
returns-clause-inside c = (further_whole c.args.variables.now c.loop-variable-2.variable-index c.loop-variable-2.values.items c.loop-variable-2-test.false c.loop-variable-2.invariant).1
