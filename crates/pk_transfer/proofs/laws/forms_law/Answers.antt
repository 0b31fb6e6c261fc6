use Rattle.pk_transfer.proofs.Forms.{forms_exact}
use Rattle.pk_transfer.proofs.laws.forms_law.Goals as goal

pub returns : goal.returns
returns c = forms_exact
