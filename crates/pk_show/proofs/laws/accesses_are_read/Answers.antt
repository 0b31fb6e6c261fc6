use Rattle.pk_show.proofs.AccessLemmas.{access_read}
use Rattle.pk_show.proofs.ToldLemmas.{access_told}
use Rattle.pk_show.proofs.laws.accesses_are_read.Goals as goal

pub returns : goal.returns
returns c = record { read = access_read; told = access_told }
