use Rattle.pk_text_report.proofs.Ending.{certified_range}
use Rattle.pk_text_report.proofs.answers.certified_iteration.Goals as goal

pub returns-clause-range : goal.returns-clause-range
returns-clause-range c = certified_range c.args.options.now c.analysis_of.result c.analysis_of.ensures c.requires
