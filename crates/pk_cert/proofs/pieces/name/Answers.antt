use Rattle.std.specs.Prelude.{◌≡◌, length}
use Rattle.std.proofs.Common.{arith, subst}
use Rattle.pk_cert.specs.Beginnings.{TextsOf, IsStop}
use Rattle.pk_cert.specs.Pieces.{IsName, lined}
use Rattle.pk_cert.proofs.Parts.{name_stops, name_stops_first}
use Rattle.pk_cert.proofs.pieces.name.Goals as goal

pub returns-then-bytes-lt1 : goal.returns-then-bytes-lt1
returns-then-bytes-lt1 c = name_stops_first c.args.bytes.now (λ h _. omega (arith, h, c.if-bytes-lt1.true))

pub returns-then-not-is_letter_byte : goal.returns-then-not-is_letter_byte
returns-then-not-is_letter_byte c = name_stops_first c.args.bytes.now (λ h is. let f = c.if-not-is_letter_byte.ensures in cc)

pub returns-then-not-is_part_byte : goal.returns-then-not-is_part_byte
returns-then-not-is_part_byte c =
    name_stops c.args.bytes.now c.loop-k.k (omega arith) c.loop-k.invariant (λ h is. let f = c.if-not-is_part_byte.ensures in cc) (λ h e. c.if-bytes-k-eq10.false e)

pub returns : goal.returns
returns c =
    let e : c.loop-k.k ≡ length c.args.bytes.now = omega arith in
    subst (IsStop (TextsOf IsName lined) c.args.bytes.now) e
    (name_stops c.args.bytes.now c.loop-k.k (omega arith) c.loop-k.invariant (λ h _. omega (arith, h, e)) (λ h _. omega (arith, h, e)))
