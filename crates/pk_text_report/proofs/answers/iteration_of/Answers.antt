use Rattle.pk_text_report.proofs.Ending.{run_range}
use Rattle.pk_text_report.proofs.answers.iteration_of.Goals as goal

pub returns-clause-range : goal.returns-clause-range
returns-clause-range c = run_range c.args.options.now c.analysis_of.result c.analysis_of.ensures c.requires
