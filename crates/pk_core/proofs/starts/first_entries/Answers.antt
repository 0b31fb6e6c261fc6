use Rattle.std.proofs.lemmas.List.{map-append}
use Rattle.pk_iterate.proofs.Lists.{map_more}
use Rattle.pk_core.specs.Entries.{first_standing}
use Rattle.pk_core.proofs.starts.first_entries.Goals as goal

pub loop-e-preserved : goal.loop-e-preserved
loop-e-preserved g c =
    rw (c.in_ok-push.ensures.items, map-append) (map_more (first_standing (g.Y.System.meaning c.args.system.now) c.args.plan.now) _ c.loop-e.e _ c.loop-e.invariant c.in_ok-first_entry.ensures)
