use Prim.Native.Nat.{max}
use Rattle.std.proofs.Common.{◌≡◌, ◌+◌, ℕ, List, ap, ◌∙◌, sym, subst, length, slice_index, arith}
use Rattle.pk_packs.proofs.EndLemmas.{AreEndsSoFar, ends_begin, ends_next, ends_end}
use Rattle.pk_packs.proofs.ends.ends.Goals as goal

pub loop-end-init : goal.loop-end-init
loop-end-init c = ends_begin c.args.plan.now c.new-ends.result.items c.new-ends.ensures.items

pub loop-end-preserved : goal.loop-end-preserved
loop-end-preserved c =
    let own = c.in_ok-own.own.items in
    subst (λ (es : List ℕ). AreEndsSoFar c.args.plan.now (c.loop-end.end-index + 1) c.max-furthest.result es) (sym c.in_ok-push.ensures.items)
    (ends_next c.args.plan.now c.loop-end.end-index c.loop-end.furthest c.max-furthest.result own c.loop-end.ends.items c.in_ok-own.ensures
    (c.max-furthest.ensures ∙ ap (λ (xs : List ℕ). max c.loop-end.furthest (slice_index xs c.loop-end.end-index)) c.deref-end-items.ensures.value)
    c.loop-end.invariant)

pub returns : goal.returns
returns c =
    let before = c.loop-end-test.false in
    let after = c.loop-end.auto.end-index-end in
    let long : length c.deref-end-items.result.now ≡ length c.in_ok-own.own.items = ap (λ (xs : List ℕ). length xs) c.deref-end-items.ensures.value in
    ends_end c.args.plan.now c.loop-end.end-index c.loop-end.furthest c.in_ok-own.own.items c.loop-end.ends.items c.in_ok-own.ensures
    (omega (arith, before, after, long)) c.loop-end.invariant
