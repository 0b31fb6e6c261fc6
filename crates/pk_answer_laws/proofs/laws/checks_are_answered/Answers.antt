use Rattle.pk_answer_laws.proofs.Checking.{checks}
use Rattle.pk_answer_laws.proofs.laws.checks_are_answered.Goals as goal

pub returns : goal.returns
returns c = checks (record {
  ends = c.every_text_ends.ensures;
  made = c.graphs_are_well_made.ensures;
  heads = c.every_head_ends.ensures;
  readings = c.every_reading_ends.ensures;
  checks = c.read_cells_are_checked.ensures;
})
