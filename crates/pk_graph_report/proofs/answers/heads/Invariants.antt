use Rattle.std.proofs.Common.{◌≡◌, map, take}
use Rattle.pk_plan.specs.declared.components.Component.{Component}
use Rattle.pk_graph_report.proofs.answers.heads.Given as goal

abbrev pub invariant-loop-component : goal.invariant-loop-component
invariant-loop-component l = l.heads.items ≡ map (λ (c : Component). c.head) (take l.component-index l.plan.components)
