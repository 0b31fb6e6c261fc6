use Rattle.std.proofs.Common.{ap, sym, ◌∙◌, [], ◌∷◌, ◌++◌, Vec, Global}
use Rattle.pk_plan.specs.declared.components.Component.{Component}
use Rattle.pk_wpo.proofs.Numbers.{head_holds}
use Rattle.pk_wpo.proofs.Components.{components_more, components_same}
use Rattle.pk_wpo.proofs.layout.Layout.components.Goals as goal
use Rattle.pk_wpo.proofs.layout.Layout.components.Goals.{then-is_head+in_ok-push, else-is_head}

pub component-requires : goal.component-requires
component-requires c = head_holds c.args.self.now.items c.loop-head.head (sym c.is_head.ensures ∙ c.if-is_head.true)

pub loop-head-preserved : goal.loop-head-preserved
loop-head-preserved c = elim c.if-is_head.branch [
  | then-is_head+in_ok-push w ↦
      components_more c.args.self.now c.loop-head.head c.loop-head.components.items c.if-is_head.components.items (sym c.is_head.ensures ∙ w.if-is_head.true)
      (ap (λ (v : Vec Component Global). v.items) w.components-is ∙ w.in_ok-push.ensures.items ∙ ap (λ (x : Component). c.loop-head.components.items ++ x ∷ []) w.component.ensures)
      c.loop-head.invariant
  | else-is_head w ↦
      ap (λ (v : Vec Component Global). v.items) w.components-is ∙ c.loop-head.invariant
      ∙ components_same c.args.self.now c.loop-head.head (sym c.is_head.ensures ∙ w.if-is_head.false)
]
