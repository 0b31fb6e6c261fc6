use Rattle.std.proofs.Common.{sym, arith, ◌∙◌}
use Rattle.pk_wpo.specs.Constraints.{vertex}
use Rattle.pk_wpo.proofs.Numbers.{head_holds, holds_head}
use Rattle.pk_wpo.proofs.Orders.{has_vertex}
use Rattle.pk_wpo.proofs.layout.Layout.holds.Goals as goal

pub has-requires-clause-head : goal.has-requires-clause-head
has-requires-clause-head c = head_holds c.args.self.now.items c.args.h (sym c.is_head.ensures ∙ c.if-is_head.true)

pub has-requires-clause-element : goal.has-requires-clause-element
has-requires-clause-element c = let below = c.requires.vertex in omega (arith, below)

pub returns-then-is_head : goal.returns-then-is_head
returns-then-is_head c = (
  (λ told. has_vertex c.args.self.now c.args.h c.args.u c.laid.ensures (c.has.ensures.0 told) c.requires.vertex),
  (λ x. c.has.ensures.1 (vertex x)),
)

pub returns-else-is_head : goal.returns-else-is_head
returns-else-is_head c = (
  (λ told. absurd (cc)),
  (λ x. let told = holds_head c.args.self.now.items c.args.h c.args.u x in absurd (cc (sym told ∙ sym c.is_head.ensures ∙ c.if-is_head.false))),
)
