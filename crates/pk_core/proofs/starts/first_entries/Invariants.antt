use Rattle.std.proofs.Common.{◌≡◌, map}
use Rattle.std.specs.List.{range_with_len}
use Rattle.pk_core.specs.Entries.{standing_of, first_standing}
use Rattle.pk_core.proofs.starts.first_entries.Given as goal

-- the elements so far
abbrev pub invariant-loop-e : goal.invariant-loop-e
invariant-loop-e g l = map standing_of l.entries.items ≡ map (first_standing (g.Y.System.meaning l.system) l.plan) (range_with_len 0 l.e)
