use Rattle.pk_analysis_fits.proofs.Scheduling.{every_digraph}
use Rattle.pk_analysis_fits.proofs.laws.every_digraph_is_scheduled.Goals as goal

pub returns : goal.returns
returns c = every_digraph
