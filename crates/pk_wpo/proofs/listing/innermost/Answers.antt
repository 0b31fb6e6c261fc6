use Rattle.std.proofs.Common.{◌∙◌}
use Rattle.pk_wpo.proofs.Walked.{last_get}
use Rattle.pk_wpo.proofs.listing.innermost.Goals as goal

pub returns : goal.returns
returns c = c.copied.ensures ∙ c.last.ensures.value ∙ last_get c.args.opened.now
