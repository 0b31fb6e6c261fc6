use Rattle.pk_text_report.proofs.Ending.{default_range}
use Rattle.pk_text_report.proofs.answers.default_iteration.Goals as goal

pub returns-clause-range : goal.returns-clause-range
returns-clause-range c = default_range c.args.workers c.default_analysis.result c.default_analysis.ensures c.requires
