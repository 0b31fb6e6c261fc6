use Rattle.std.proofs.Common.{sym, arith, ◌∙◌}
use Rattle.pk_wpo.proofs.Numbers.{head_holds, holds_head}
use Rattle.pk_wpo.proofs.Orders.{innermost_by_home, innermost_itself}
use Rattle.pk_wpo.proofs.layout.Layout.innermost.Goals as goal

pub home-requires : goal.home-requires
home-requires c = let below = c.requires in omega (arith, below)

pub returns-then-is_head : goal.returns-then-is_head
returns-then-is_head c = innermost_itself c.args.self.now c.args.u (head_holds c.args.self.now.items c.args.u (sym c.is_head.ensures ∙ c.if-is_head.true))

pub returns-else-is_head : goal.returns-else-is_head
returns-else-is_head c =
    innermost_by_home c.args.self.now c.args.u c.home.result c.laid.ensures c.requires
    (λ x. let told = holds_head c.args.self.now.items c.args.u c.args.u x in absurd (cc (sym told ∙ sym c.is_head.ensures ∙ c.if-is_head.false)))
    c.home.ensures
