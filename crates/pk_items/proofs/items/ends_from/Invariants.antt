use Rattle.pk_items.proofs.Walking.{AreEndsBelow}
use Rattle.pk_items.proofs.items.ends_from.Given as goal

abbrev pub invariant-loop-component : goal.invariant-loop-component
invariant-loop-component l = AreEndsBelow l.plan l.component-index l.ends.items
