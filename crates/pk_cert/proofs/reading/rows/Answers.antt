use Rattle.std.specs.Prelude.{◌≡◌, List, ℕ}
use Rattle.std.proofs.Common.{arith, subst}
use Rattle.std.proofs.lemmas.List.{take_rest}
use Rattle.pk_cert.specs.Beginnings.{TextsOf, IsStop}
use Rattle.pk_cert.specs.Rows.{IsLine, line_text}
use Rattle.pk_cert.specs.Pieces.{IsRowRead}
use Rattle.pk_cert.proofs.Lines.{LinesSo, lines_begun, lines_next, lines_stop, lines_ended}
use Rattle.pk_cert.proofs.reading.rows.Goals as goal

pub loop-k-init : goal.loop-k-init
loop-k-init c = rw c.new-rows.ensures.items (lines_begun c.args.shape c.args.points c.args.bytes.now)

pub loop-k-preserved : goal.loop-k-preserved
loop-k-preserved c = rw c.in_ok-push-in-Ok.ensures.items
    (lines_next c.args.shape c.args.points c.args.bytes.now c.loop-k.rows.items c.loop-k.k c.loop-k.at c.in-Ok.row c.in-Ok.n c.loop-k.invariant c.loop-k-test.true
    (subst (λ (x : List ℕ). IsRowRead c.args.shape x c.in-Ok.row c.in-Ok.n) (take_rest c.args.bytes.now c.loop-k.at) c.in-Ok.ensures))

pub returns-in-Err-Byte : goal.returns-in-Err-Byte
returns-in-Err-Byte c =
    let stop =
    lines_stop c.args.shape c.args.points c.args.bytes.now c.loop-k.rows.items c.loop-k.k c.loop-k.at c.in-Err-Byte.n c.loop-k.invariant c.loop-k-test.true
    (subst (λ (x : List ℕ). IsStop (TextsOf (IsLine c.args.shape) line_text) x c.in-Err-Byte.n) (take_rest c.args.bytes.now c.loop-k.at) (rw c.in-Err-Byte.field-0-is at c.in-Err-Byte.ensures)) in
    rw c.in-Err-Byte.field-0-is stop

pub returns : goal.returns
returns c =
    let e : c.loop-k.k ≡ c.args.points = omega arith in
    lines_ended c.args.shape c.args.points c.args.bytes.now c.loop-k.rows.items c.loop-k.at
    (subst (λ (j : ℕ). LinesSo c.args.shape c.args.points c.args.bytes.now c.loop-k.rows.items j c.loop-k.at) e c.loop-k.invariant)
