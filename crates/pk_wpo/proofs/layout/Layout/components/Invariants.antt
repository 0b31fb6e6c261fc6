use Rattle.std.proofs.Common.{◌≡◌, map}
use Rattle.pk_wpo.specs.Constraints.{heads_below}
use Rattle.pk_wpo.specs.Layouts.{component_at}
use Rattle.pk_wpo.proofs.layout.Layout.components.Given as goal

-- the components so far
abbrev pub invariant-loop-head : goal.invariant-loop-head
invariant-loop-head l = l.components.items ≡ map (component_at l.self) (heads_below l.self.items l.head)
