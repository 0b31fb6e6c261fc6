use Rattle.std.proofs.Common.{◌∙◌, sym, arith}
use Rattle.std.proofs.lemmas.Nat.{mod_below}
use Rattle.pk_congr.proofs.Gcd.{gcd_step}
use Rattle.pk_congr.proofs.Solutions.{one_modulus, smaller_product, solved}
use Rattle.pk_congr.proofs.meeting.«+solution».Goals as goal

pub solution-u-requires : goal.solution-u-requires
solution-u-requires t c = (
  omega arith,
  (
    sym (gcd_step c.args.m c.args.n) ∙ c.requires.apart,
    (
      smaller_product c.args.m c.args.n _ c.requires.product,
      mod_below _ _ (omega arith),
    ),
  ),
)

pub returns-then-a-eq0-clause-solves : goal.returns-then-a-eq0-clause-solves
returns-then-a-eq0-clause-solves t c =
    let one = one_modulus c.args.m c.args.n c.requires.apart (omega arith) in
    (0, omega arith)

pub returns-else-a-eq0-clause-solves : goal.returns-else-a-eq0-clause-solves
returns-else-a-eq0-clause-solves t c = solved c.args.m c.args.n c.args.d c.solution-u.result (omega arith) c.solution-u.ensures.solves
