use Rattle.std.proofs.Common.{◌≡◌, ◌∷◌, map, take}
use Rattle.pk_graph.specs.Shown.{graph_view}
use Rattle.pk_plan.specs.declared.components.Component.{Component}
use Rattle.pk_packs.specs.Belongs.{lies_in, lies_in_none}
use Rattle.pk_packs.specs.Packs.{variables_over}
use Rattle.pk_packs.proofs.answers.packs.Given as goal

abbrev pub invariant-loop-component : goal.invariant-loop-component
invariant-loop-component l =
    l.packs.items
    ≡ variables_over (graph_view l.graph) (lies_in_none l.plan) l.most
    ∷ map (λ (c : Component). variables_over (graph_view l.graph) (lies_in l.plan c) l.most) (take l.component-index l.components)
