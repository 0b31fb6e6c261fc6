use Rattle.pk_items.proofs.Walking.{WalkedTo}
use Rattle.pk_items.proofs.items.tops.Given as goal

abbrev pub invariant-loop-place : goal.invariant-loop-place
invariant-loop-place l = WalkedTo l.plan l.place l.until l.tops.items
