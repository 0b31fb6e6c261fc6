use Rattle.std.proofs.Common.{◌≡◌, ℕ, ◌+◌, ◌<◌, List, length, get_or, sym, ap, subst, ◌∙◌, arith, add-zero}
use Rattle.std.proofs.lemmas.Grind.{get_or_default_zero}
use Rattle.std.proofs.lemmas.List.{length-set}
use Rattle.std.proofs.lemmas.List.Elements.{All-get_or}
use Rattle.pk_layout.specs.Gathered.{AreGiven, slot_of_read}
use Rattle.pk_layout.proofs.Counting.{counted_more, times_next}
use Rattle.pk_layout.proofs.Giving_more.{given_none, given_more}
use Rattle.pk_layout.proofs.giving.give.Goals as goal

pub loop-u-preserved : goal.loop-u-preserved
loop-u-preserved c =
    let first = c.args.first.now in
    let targets = c.args.targets.now in
    let next = c.loop-u.next.items in
    let j = c.loop-u.u-index in
    let u = get_or targets j 0 in
    let slot = c.index.result.now + 1 in
    let many = c.loop-u.invariant.as_many in
    let low : u < length first = All-get_or (λ v. v < length first) targets j 0 c.loop-u-test.true c.requires.elements in
    let at = get_or_default_zero next u c.index.result.now (omega (arith, low, many)) in
    let found : c.index.result.now ≡ get_or next u 0 = c.index.ensures ∙ at in
    let is : slot ≡ slot_of_read first targets j = omega (arith, found, c.loop-u.invariant.next u low, times_next targets j c.loop-u-test.true) in
    record {
      as_many = length-set next u slot ∙ many;
      next = λ v in_range. counted_more (λ w. get_or first w 0) next targets j slot c.loop-u-test.true (omega (arith, low, many)) (λ w h. c.loop-u.invariant.next w (omega (arith, h, many))) (ap (λ (k : ℕ). k + 1) found) v (omega (arith, in_range, many));
      given = subst (AreGiven first targets (j + 1)) (sym c.in_ok-push.ensures.items) (given_more first targets j slot c.loop-u.inputs.items is c.loop-u.invariant.given);
    }

pub returns : goal.returns
returns c =
    let all : c.loop-u.u-index ≡ length c.args.targets.now = omega (arith, c.loop-u-test.false, c.loop-u.auto.u-index-end) in
    subst (λ (n : ℕ). AreGiven c.args.first.now c.args.targets.now n c.loop-u.inputs.items) all c.loop-u.invariant.given

pub loop-u-init : goal.loop-u-init
loop-u-init c =
    let items = c.in_ok-next.ensures.items in
    record {
      as_many = ap length items;
      next = λ u in_range. ap (λ (xs : List ℕ). get_or xs u 0) items ∙ sym (add-zero (get_or c.args.first.now u 0));
      given = subst (AreGiven c.args.first.now c.args.targets.now 0) (sym c.new-inputs.ensures.items) (given_none c.args.first.now c.args.targets.now);
    }

pub index-requires : goal.index-requires
index-requires c =
    let low = All-get_or (λ v. v < length c.args.first.now) c.args.targets.now c.loop-u.u-index 0 c.loop-u-test.true c.requires.elements in
    omega (arith, low, c.loop-u.invariant.as_many, c.loop-u.next.ok.0)

pub overflow_add-slot : goal.overflow_add-slot
overflow_add-slot c =
    let targets = c.args.targets.now in
    let j = c.loop-u.u-index in
    let u = get_or targets j 0 in
    let low = All-get_or (λ v. v < length c.args.first.now) targets j 0 c.loop-u-test.true c.requires.elements in
    let at = get_or_default_zero c.loop-u.next.items u c.index.result.now (omega (arith, low, c.loop-u.invariant.as_many)) in
    omega (arith, c.index.ensures, at, c.loop-u.invariant.next u low, times_next targets j c.loop-u-test.true, c.requires.fit j c.loop-u-test.true)
