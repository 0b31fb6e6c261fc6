use Rattle.std.specs.Prelude.{List, ℕ}
use Rattle.std.proofs.Common.{subst}
use Rattle.std.proofs.lemmas.List.{take_rest}
use Rattle.pk_cert.specs.Beginnings.{TextsOf, IsStop}
use Rattle.pk_cert.specs.Rows.{AreLines, lines_text}
use Rattle.pk_cert.specs.Heads.{head_view}
use Rattle.pk_cert.specs.Pieces.{AreRowsRead}
use Rattle.pk_cert.proofs.Lines.{certificate_stops, certificate_goes_on}
use Rattle.pk_cert.proofs.reading.read.Goals as goal

pub returns-in-Err-Byte : goal.returns-in-Err-Byte
returns-in-Err-Byte c =
    certificate_stops c.args.shape c.args.points (head_view c.args.head.now) c.args.bytes.now c.args.head.now.len c.requires.head.first c.in-Err-Byte.n
    (subst (λ (x : List ℕ). IsStop (TextsOf (AreLines c.args.shape c.args.points) lines_text) x c.in-Err-Byte.n) (take_rest c.args.bytes.now c.args.head.now.len) (rw c.in-Err-Byte.field-0-is at c.in-Err-Byte.ensures))

pub returns-then-head-n : goal.returns-then-head-n
returns-then-head-n c =
    let r = subst (λ (x : List ℕ). AreRowsRead c.args.shape c.args.points x c.in-Ok.rows.items c.in-Ok.n) (take_rest c.args.bytes.now c.args.head.now.len) c.in-Ok.ensures in
    certificate_goes_on c.args.shape c.args.points (head_view c.args.head.now) c.args.bytes.now c.args.head.now.len c.requires.head.first r.lines c.in-Ok.n r.are r.first c.if-head-n.true
