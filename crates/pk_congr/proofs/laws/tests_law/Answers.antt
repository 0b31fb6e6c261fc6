use Rattle.pk_congr.proofs.Order.{tests}
use Rattle.pk_congr.proofs.laws.tests_law.Goals as goal

pub returns : goal.returns
returns c = tests
