use Rattle.std.specs.Prelude.{List, ℕ}
use Rattle.std.proofs.Common.{subst}
use Rattle.std.proofs.lemmas.List.{take_rest}
use Rattle.pk_cert.specs.Beginnings.{IsStop}
use Rattle.pk_cert.specs.Pieces.{FromEntry}
use Rattle.pk_cert.proofs.Heading.{oct_fails, behind_oct_fails}
use Rattle.pk_cert.proofs.heads.from_oct.Goals as goal

pub returns-in-Err : goal.returns-in-Err
returns-in-Err c = oct_fails c.args.size c.args.bytes.now c.in-Err.n c.in-Err.ensures

pub returns-in-Err-from_entry : goal.returns-in-Err-from_entry
returns-in-Err-from_entry c =
    behind_oct_fails c.args.size c.args.bytes.now c.in-Ok.oct c.in-Ok.n c.in-Err-from_entry.k c.in-Ok.ensures
    (subst (λ (x : List ℕ). IsStop (FromEntry c.args.size) x c.in-Err-from_entry.k) (take_rest c.args.bytes.now c.in-Ok.n) c.in-Err-from_entry.ensures)
