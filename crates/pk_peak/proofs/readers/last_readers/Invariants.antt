use Rattle.std.proofs.Common.{get_or, take}
use Rattle.pk_plan.specs.Plans.{predecessors_of}
use Rattle.pk_peak.proofs.Reading.{AreLastBelow, AreLastWithin}
use Rattle.pk_peak.proofs.readers.last_readers.Given as goal

abbrev pub invariant-loop-b : goal.invariant-loop-b
invariant-loop-b l = AreLastBelow l.plan (λ e. get_or l.items.of.items e 0) l.items.count l.b l.last.items

abbrev pub invariant-loop-a : goal.invariant-loop-a
invariant-loop-a l = AreLastWithin l.plan (λ e. get_or l.items.of.items e 0) l.items.count l.b l.reader (take l.a-index (predecessors_of l.plan l.b)) l.last.items
