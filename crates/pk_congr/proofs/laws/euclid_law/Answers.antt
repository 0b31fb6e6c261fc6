use Rattle.pk_congr.proofs.Gcd.{euclid}
use Rattle.pk_congr.proofs.laws.euclid_law.Goals as goal

pub returns : goal.returns
returns c = euclid
