use Rattle.pk_answer_laws.proofs.Limiting.{cut_offs}
use Rattle.pk_answer_laws.proofs.laws.cut_offs_are_low.Goals as goal

pub returns : goal.returns
returns c = cut_offs c.limits_are_low.ensures c.graphs_are_well_made.ensures
