use Rattle.std.specs.Prelude.{◌+◌, List, ℕ}
use Rattle.std.proofs.Common.{subst}
use Rattle.std.proofs.lemmas.List.{take_rest}
use Rattle.pk_cert.specs.Beginnings.{TextsOf, IsStop}
use Rattle.pk_cert.specs.Pieces.{IsBlock, lined}
use Rattle.pk_cert.proofs.Heading.{entry_fails, text_fails}
use Rattle.pk_cert.proofs.heads.from_entry.Goals as goal

pub returns-in-Err : goal.returns-in-Err
returns-in-Err c = entry_fails c.args.size c.args.bytes.now c.in-Err.n c.in-Err.ensures

pub returns-in-Err-block : goal.returns-in-Err-block
returns-in-Err-block c =
    text_fails c.args.size c.args.bytes.now c.in-Ok.n c.in-Err-block.k c.in-Ok.ensures
    (subst (λ (x : List ℕ). IsStop (TextsOf (IsBlock c.args.size) lined) x c.in-Err-block.k) (take_rest c.args.bytes.now (c.in-Ok.n + 1)) c.in-Err-block.ensures)
