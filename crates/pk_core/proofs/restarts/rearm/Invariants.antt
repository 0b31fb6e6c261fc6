use Rattle.std.proofs.Common.{◌≡◌, map, take}
use Rattle.pk_plan.specs.Plans.{members_of}
use Rattle.pk_core.specs.Entries.{standing_of, rearmed}
use Rattle.pk_core.proofs.restarts.rearm.Given as goal

-- the members so far are armed
abbrev pub invariant-loop-e : goal.invariant-loop-e
invariant-loop-e g l = map standing_of l.entries ≡ rearmed l.plan l.component (take l.e-index (members_of l.plan l.component)) (map standing_of l.fn.entries)
