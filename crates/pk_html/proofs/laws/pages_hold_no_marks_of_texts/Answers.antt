use Rattle.pk_html.proofs.MarkLemmas.{marks_are_tags}
use Rattle.pk_html.proofs.ReadLemmas.{read_back}
use Rattle.pk_html.proofs.laws.pages_hold_no_marks_of_texts.Goals as goal

pub returns-clause-marks : goal.returns-clause-marks
returns-clause-marks c = marks_are_tags

pub returns-clause-back : goal.returns-clause-back
returns-clause-back c = read_back
