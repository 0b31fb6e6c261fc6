use Rattle.std.specs.Prelude.{List, ℕ}
use Rattle.std.proofs.Common.{subst}
use Rattle.std.proofs.lemmas.List.{take_rest}
use Rattle.pk_cert.specs.Beginnings.{IsStop}
use Rattle.pk_cert.specs.Pieces.{FromOct}
use Rattle.pk_cert.proofs.Heading.{size_fails, behind_size_fails}
use Rattle.pk_cert.proofs.heads.from_size.Goals as goal

pub returns-in-Err : goal.returns-in-Err
returns-in-Err c = size_fails c.args.bytes.now c.in-Err.n c.in-Err.ensures

pub returns-in-Err-from_oct : goal.returns-in-Err-from_oct
returns-in-Err-from_oct c =
    behind_size_fails c.args.bytes.now c.in-Ok.size c.in-Ok.n c.in-Err-from_oct.k c.in-Ok.ensures
    (subst (λ (x : List ℕ). IsStop (FromOct c.in-Ok.size) x c.in-Err-from_oct.k) (take_rest c.args.bytes.now c.in-Ok.n) c.in-Err-from_oct.ensures)
