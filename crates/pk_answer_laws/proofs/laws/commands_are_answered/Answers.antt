use Rattle.pk_answer_laws.proofs.Replying.{commands}
use Rattle.pk_answer_laws.proofs.laws.commands_are_answered.Goals as goal

pub returns : goal.returns
returns c = commands c.orders_are_answered.ensures c.every_graph_is_reported.ensures c.every_graph_is_summed.ensures c.every_text_ends.ensures c.graphs_are_well_made.ensures c.checks_are_answered.ensures
