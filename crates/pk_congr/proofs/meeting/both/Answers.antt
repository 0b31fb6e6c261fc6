use Rattle.std.specs.Prelude.{◌≡◌, ◌<◌, ◌*◌, ◌/◌, ◌^◌, pos, unsigned_abs}
use Rattle.std.specs.Int.{w128}
use Rattle.std.proofs.Common.{arith, ap, ◌∙◌, to_z}
use Rattle.std.proofs.lemmas.Int.{ints}
use Rattle.pk_congr.specs.Classes.{Class, gcd, class_if}
use Rattle.pk_congr.proofs.Solutions.{modulus_is, rest_is, some_is, rest_less, part_some, meets_by, both_same, both_first, there_is, there_is_none}
use Rattle.pk_congr.proofs.meeting.both.Goals as goal

pub multiple-requires : goal.multiple-requires
multiple-requires c =
    let am : c.args.a.now.m ≡ pos c.unsigned_abs-m.result = modulus_is _ _ _ _ c.a.invariant c.unsigned_abs-m.ensures.value (ap (λ (v : Class). v.m) c.a.view_is) in
    let bm : c.args.b.now.m ≡ pos c.unsigned_abs-n.result = modulus_is _ _ _ _ c.b.invariant c.unsigned_abs-n.ensures.value (ap (λ (v : Class). v.m) c.b.view_is) in
    let left : 0 < c.unsigned_abs-m.result = some_is _ _ c.requires.left am in
    let divisor : c.args.g ≡ gcd c.unsigned_abs-m.result c.unsigned_abs-n.result =
    c.requires.divisor ∙ ap (λ v. gcd (unsigned_abs v) (unsigned_abs c.args.b.now.m)) am ∙ ap (λ v. gcd c.unsigned_abs-m.result (unsigned_abs v)) bm in
    (part_some c.unsigned_abs-m.result c.unsigned_abs-n.result c.args.g left divisor).0

pub common-requires-clause-left : goal.common-requires-clause-left
common-requires-clause-left c =
    let am : c.args.a.now.m ≡ pos c.unsigned_abs-m.result = modulus_is _ _ _ _ c.a.invariant c.unsigned_abs-m.ensures.value (ap (λ (v : Class). v.m) c.a.view_is) in
    let left : 0 < c.unsigned_abs-m.result = some_is _ _ c.requires.left am in
    let ar : c.args.a.now.r ≡ pos c.unsigned_abs.result = rest_is _ _ _ _ _ c.a.invariant c.unsigned_abs.ensures.value c.requires.left (ap (λ (v : Class). v.m) c.a.view_is) (ap (λ (v : Class). v.r) c.a.view_is) in
    rest_less _ _ _ _ _ c.a.invariant am (ap (λ (v : Class). v.m) c.a.view_is) (ap (λ (v : Class). v.r) c.a.view_is ∙ ar) left

pub common-requires-clause-right : goal.common-requires-clause-right
common-requires-clause-right c =
    let bm : c.args.b.now.m ≡ pos c.unsigned_abs-n.result = modulus_is _ _ _ _ c.b.invariant c.unsigned_abs-n.ensures.value (ap (λ (v : Class). v.m) c.b.view_is) in
    let right : 0 < c.unsigned_abs-n.result = some_is _ _ c.requires.right bm in
    let bs : c.args.b.now.r ≡ pos c.unsigned_abs-in-Some.result = rest_is _ _ _ _ _ c.b.invariant c.unsigned_abs-in-Some.ensures.value c.requires.right (ap (λ (v : Class). v.m) c.b.view_is) (ap (λ (v : Class). v.r) c.b.view_is) in
    rest_less _ _ _ _ _ c.b.invariant bm (ap (λ (v : Class). v.m) c.b.view_is) (ap (λ (v : Class). v.r) c.b.view_is ∙ bs) right

pub common-requires-clause-meets : goal.common-requires-clause-meets
common-requires-clause-meets c =
    let ar : c.args.a.now.r ≡ pos c.unsigned_abs.result = rest_is _ _ _ _ _ c.a.invariant c.unsigned_abs.ensures.value c.requires.left (ap (λ (v : Class). v.m) c.a.view_is) (ap (λ (v : Class). v.r) c.a.view_is) in
    let bs : c.args.b.now.r ≡ pos c.unsigned_abs-in-Some.result = rest_is _ _ _ _ _ c.b.invariant c.unsigned_abs-in-Some.ensures.value c.requires.right (ap (λ (v : Class). v.m) c.b.view_is) (ap (λ (v : Class). v.r) c.b.view_is) in
    meets_by c.args.a.now c.args.b.now c.unsigned_abs.result c.unsigned_abs-in-Some.result c.args.g ar bs c.requires.divisor c.requires.meets

pub returns-in-Some : goal.returns-in-Some
returns-in-Some c =
    let am : c.args.a.now.m ≡ pos c.unsigned_abs-m.result = modulus_is _ _ _ _ c.a.invariant c.unsigned_abs-m.ensures.value (ap (λ (v : Class). v.m) c.a.view_is) in
    let bm : c.args.b.now.m ≡ pos c.unsigned_abs-n.result = modulus_is _ _ _ _ c.b.invariant c.unsigned_abs-n.ensures.value (ap (λ (v : Class). v.m) c.b.view_is) in
    let left : 0 < c.unsigned_abs-m.result = some_is _ _ c.requires.left am in
    let right : 0 < c.unsigned_abs-n.result = some_is _ _ c.requires.right bm in
    let divisor : c.args.g ≡ gcd c.unsigned_abs-m.result c.unsigned_abs-n.result =
    c.requires.divisor ∙ ap (λ v. gcd (unsigned_abs v) (unsigned_abs c.args.b.now.m)) am ∙ ap (λ v. gcd c.unsigned_abs-m.result (unsigned_abs v)) bm in
    let ar : c.args.a.now.r ≡ pos c.unsigned_abs.result = rest_is _ _ _ _ _ c.a.invariant c.unsigned_abs.ensures.value c.requires.left (ap (λ (v : Class). v.m) c.a.view_is) (ap (λ (v : Class). v.r) c.a.view_is) in
    let bs : c.args.b.now.r ≡ pos c.unsigned_abs-in-Some.result = rest_is _ _ _ _ _ c.b.invariant c.unsigned_abs-in-Some.ensures.value c.requires.right (ap (λ (v : Class). v.m) c.b.view_is) (ap (λ (v : Class). v.r) c.b.view_is) in
    let held = there_is (c.unsigned_abs-m.result / c.args.g * c.unsigned_abs-n.result < 2 ^ 127) (c.unsigned_abs-m.result / c.args.g * c.unsigned_abs-n.result) c.multiple.result c.in-Some.l c.multiple.ensures c.in-Some.is in
    let found : to_z w128 c.common.result ≡ pos c.common.result = omega (arith, ints, c.common.ensures.held) in
    c.class.ensures ∙ ap (class_if (pos c.in-Some.l)) found
    ∙ both_same c.args.a.now c.args.b.now c.unsigned_abs-m.result c.unsigned_abs.result c.unsigned_abs-n.result c.unsigned_abs-in-Some.result c.args.g c.in-Some.l c.common.result
    am ar bm bs left right divisor c.requires.meets held.0 held.1 c.common.ensures.held c.common.ensures.left c.common.ensures.right

pub returns-in-None : goal.returns-in-None
returns-in-None c =
    let am : c.args.a.now.m ≡ pos c.unsigned_abs-m.result = modulus_is _ _ _ _ c.a.invariant c.unsigned_abs-m.ensures.value (ap (λ (v : Class). v.m) c.a.view_is) in
    let bm : c.args.b.now.m ≡ pos c.unsigned_abs-n.result = modulus_is _ _ _ _ c.b.invariant c.unsigned_abs-n.ensures.value (ap (λ (v : Class). v.m) c.b.view_is) in
    let left : 0 < c.unsigned_abs-m.result = some_is _ _ c.requires.left am in
    let divisor : c.args.g ≡ gcd c.unsigned_abs-m.result c.unsigned_abs-n.result =
    c.requires.divisor ∙ ap (λ v. gcd (unsigned_abs v) (unsigned_abs c.args.b.now.m)) am ∙ ap (λ v. gcd c.unsigned_abs-m.result (unsigned_abs v)) bm in
    let large = there_is_none (c.unsigned_abs-m.result / c.args.g * c.unsigned_abs-n.result < 2 ^ 127) (c.unsigned_abs-m.result / c.args.g * c.unsigned_abs-n.result) c.multiple.result c.multiple.ensures c.in-None.is in
    c.a.view_is ∙ both_first c.args.a.now c.args.b.now c.unsigned_abs-m.result c.unsigned_abs-n.result c.args.g am bm left divisor large
