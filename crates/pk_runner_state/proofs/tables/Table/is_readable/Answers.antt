use Rattle.pk_runner_state.proofs.RowLemmas.{orderly_agree}
use Rattle.pk_runner_state.proofs.tables.Table.is_readable.Goals as goal

pub returns : goal.returns
returns c = orderly_agree c.args.self.now.rows.items c.args.self.now.orderly
