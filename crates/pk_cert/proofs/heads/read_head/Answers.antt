use Rattle.std.specs.Prelude.{List, ℕ}
use Rattle.std.proofs.Common.{subst}
use Rattle.std.proofs.lemmas.List.{take_rest}
use Rattle.pk_cert.specs.Beginnings.{IsStop}
use Rattle.pk_cert.specs.Pieces.{FromSize}
use Rattle.pk_cert.proofs.Heading.{opening_fails, behind_opening_fails}
use Rattle.pk_cert.proofs.heads.read_head.Goals as goal

pub returns-in-Err : goal.returns-in-Err
returns-in-Err c = opening_fails c.args.bytes.now c.in-Err.n c.in-Err.ensures

pub returns-in-Err-from_size : goal.returns-in-Err-from_size
returns-in-Err-from_size c =
    behind_opening_fails c.args.bytes.now c.in-Err-from_size.n c.in-Ok.ensures
    (subst (λ (x : List ℕ). IsStop FromSize x c.in-Err-from_size.n) (take_rest c.args.bytes.now 13) c.in-Err-from_size.ensures)
