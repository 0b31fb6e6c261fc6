use Rattle.pk_answer_laws.proofs.Certifying.{certificates_checked}
use Rattle.pk_answer_laws.proofs.laws.certificates_are_checked.Goals as goal

pub returns : goal.returns
returns c = certificates_checked c.results_check_well.ensures c.raw_cells_are_determined.ensures c.graphs_are_well_made.ensures c.entries_are_names.ensures
