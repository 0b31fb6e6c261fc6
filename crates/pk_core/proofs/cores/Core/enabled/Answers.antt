use Rattle.std.proofs.Common.{rules}
use Rattle.pk_core.proofs.Asked.{finish_tells, not_held}
use Rattle.pk_core.proofs.cores.Core.enabled.Goals as goal

pub returns-in-Offer : goal.returns-in-Offer
returns-in-Offer g c = rw c.in-Offer.is c.holds.ensures.held

pub returns-in-Claim : goal.returns-in-Claim
returns-in-Claim g c = rw c.in-Claim.is c.leaves_open.ensures

pub returns-then-holds : goal.returns-then-holds
returns-then-holds g c = rw c.in-Finish.is (λ s shown. finish_tells c.is_exit.result ((c.holds-in-Finish.ensures.held s shown).0 c.if-holds.true) (search rules))

pub returns-else-holds : goal.returns-else-holds
returns-else-holds g c = rw c.in-Finish.is (λ s shown. not_held c.holds-in-Finish.result c.if-holds.false (c.holds-in-Finish.ensures.held s shown))
