use Rattle.pk_congr.proofs.Next.{next_members}
use Rattle.pk_congr.proofs.laws.next_law.Goals as goal

pub returns : goal.returns
returns c = next_members
