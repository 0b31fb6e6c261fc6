use Rattle.std.proofs.Common.{ap, sym, ◌∙◌, ◌++◌, ◌-◌, ◌+◌, List, map, replicate}
use Rattle.pk_graph.specs.declared.graphs.Variable.{Variable}
use Rattle.pk_graph.specs.Graphs.{variable_view, no_variable}
use Rattle.pk_draft.proofs.DraftLemmas.{space_next, space_end}
use Rattle.pk_draft.proofs.drafts.with_space.Goals as goal

pub loop-preserved : goal.loop-preserved
loop-preserved c =
    ap (λ (xs : List Variable). map variable_view xs ++ replicate (c.args.count - (c.loop.counter + 1)) no_variable) c.in_ok-push.ensures.items
    ∙ (sym (space_next c.loop.variables.items c.no_variable.result c.loop.counter c.args.count c.loop-test.true c.no_variable.ensures) ∙ c.loop.invariant)

pub returns : goal.returns
returns c = sym (space_end (map variable_view c.loop.variables.items) c.loop.counter c.args.count c.loop-test.false) ∙ c.loop.invariant
