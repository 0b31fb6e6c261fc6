use Rattle.std.specs.Arc.{arc_value}
use Rattle.pk_core.specs.Entries.{after_run}
use Rattle.pk_core.proofs.Changed_at.{changed_set}
use Rattle.pk_core.proofs.entries.run.Goals as goal

pub returns : goal.returns
returns g c = changed_set c.args.entries.now c.args.e c.run_once.new.entry c.index-entries-e.result (after_run c.args.status (arc_value c.args.cell)) c.requires.e c.run_once.ensures
