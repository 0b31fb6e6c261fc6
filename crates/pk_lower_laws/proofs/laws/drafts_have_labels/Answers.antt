use Rattle.pk_lower_laws.proofs.Drafts.Drafts.{drafts_have_labels}
use Rattle.pk_lower_laws.proofs.laws.drafts_have_labels.Goals as goal

pub returns : goal.returns
returns c = drafts_have_labels
