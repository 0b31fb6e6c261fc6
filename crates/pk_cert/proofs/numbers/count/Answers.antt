use Rattle.std.specs.Prelude.{◌≡◌, length}
use Rattle.std.proofs.Common.{arith, subst}
use Rattle.pk_cert.specs.Beginnings.{TextsOf, IsStop}
use Rattle.pk_cert.specs.Pieces.{value_of, IsBetween, counted}
use Rattle.pk_cert.proofs.Digits.{count_stops, count_stops_first, first_told, next_told}
use Rattle.pk_cert.proofs.numbers.count.Goals as goal

pub returns-in-None : goal.returns-in-None
returns-in-None c =
    count_stops_first c.args.least (value_of c.args.most) c.args.end (omega arith) (omega arith) (omega arith) c.args.bytes.now c.in-None.ensures c.requires.least

pub loop-k-init : goal.loop-k-init
loop-k-init c =
    let r = c.in-Some.ensures in
    record {
      is = record { tens = omega (arith, r.tens); last = omega (arith, r.last, r.first.high) };
      between = record { low = omega (arith, r.last, r.first.low); high = omega (arith, r.tens, r.last, r.first.high, c.requires.some) };
      told = first_told c.args.least c.args.bytes.now c.in-Some.number r;
    }

pub returns-in-None-with_digit : goal.returns-in-None-with_digit
returns-in-None-with_digit c =
    count_stops c.args.least (value_of c.args.most) c.args.end (omega arith) (omega arith) (omega arith) c.args.bytes.now (value_of c.loop-k.number) c.loop-k.k (omega arith)
    c.loop-k.invariant.told c.loop-k.invariant.between (λ h. c.in-None-with_digit.ensures) (λ h e. c.if-bytes-k.false e)

pub loop-k-preserved : goal.loop-k-preserved
loop-k-preserved c =
    let r = c.in-Some-with_digit.ensures in
    record {
      is = r.0;
      between = record { low = omega (arith, r.1.value, c.loop-k.invariant.between.low); high = r.2 };
      told = next_told c.args.bytes.now c.loop-k.k (value_of c.loop-k.number) (value_of c.in-Some-with_digit.next) c.loop-k-test.true c.loop-k.invariant.told r.1 (omega (arith, r.0.tens, r.0.last));
    }

pub returns : goal.returns
returns c =
    let e : c.loop-k.k ≡ length c.args.bytes.now = omega (arith, c.in-Some.ensures.first.some) in
    subst (IsStop (TextsOf (IsBetween c.args.least (value_of c.args.most)) (counted c.args.end)) c.args.bytes.now) e
    (count_stops c.args.least (value_of c.args.most) c.args.end (omega arith) (omega arith) (omega arith) c.args.bytes.now (value_of c.loop-k.number) c.loop-k.k (omega arith)
    c.loop-k.invariant.told c.loop-k.invariant.between (λ h _ _ _. omega (arith, h, e)) (λ h _. omega (arith, h, e)))
