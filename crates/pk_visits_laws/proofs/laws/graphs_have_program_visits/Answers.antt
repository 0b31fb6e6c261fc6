use Rattle.pk_visits_laws.proofs.laws.graphs_have_program_visits.Goals as goal
use Rattle.pk_visits_laws.proofs.Same.Same.{graphs_have_program_visits}

pub returns : goal.returns
returns c = graphs_have_program_visits c.paths_are_all.ensures c.programs_are_followed.ensures
