use Rattle.std.proofs.Common.{◌≡◌, ◌<◌, ◌+◌, List, length, get_or, set, arith, sym, ap, subst}
use Rattle.pk_plan.specs.declared.components.Component.{Component}
use Rattle.pk_plan.proofs.PlanLemmas.{head_within}
use Rattle.pk_linear.proofs.WaitLemmas.{AreLastsSoFar, nth_of, lasts_push, lasts_more, lasts_all}
use Rattle.pk_linear.proofs.waits.last_places.Goals as goal

pub loop-element-preserved : goal.loop-element-preserved
loop-element-preserved c =
    lasts_push c.args.plan.now c.loop-element.lasts.items c.push.new.self.items c.loop-element.element c.place.result c.loop-element.invariant c.in_ok-push.ensures.items c.place.ensures

pub loop-component-init : goal.loop-component-init
loop-component-init c = record {
  length = omega (arith, c.loop-element.invariant.0, c.loop-element-test.false, c.elements-element-end.ensures);
  heads = λ k less. absurd (omega (arith, less));
  others = λ e within none. c.loop-element.invariant.1 e (omega (arith, within, c.loop-element-test.false, c.elements-element-end.ensures));
}

pub index_mut-requires : goal.index_mut-requires
index_mut-requires c =
    let p = c.args.plan.now in
    let i = c.loop-component.component-index in
    let d : Component = record { head = 0; exit = 0; first = 0; end = 0 } in
    let is = c.components-component-items.ensures in
    let in_range : i < length p.components = subst (λ (cs : List Component). i < length cs) is c.loop-component-test.true in
    let head : (get_or p.components i d).head < p.elements = head_within p (get_or p.components i d) c.axioms.ensures.axioms (nth_of p i in_range) in
    let same : (get_or c.components-component-items.result.now i d).head ≡ (get_or p.components i d).head = ap (λ (cs : List Component). (get_or cs i d).head) is in
    omega (arith, head, same, c.loop-component.invariant.length)

pub loop-component-preserved : goal.loop-component-preserved
loop-component-preserved c =
    let p = c.args.plan.now in
    let i = c.loop-component.component-index in
    let d : Component = record { head = 0; exit = 0; first = 0; end = 0 } in
    let is = c.components-component-items.ensures in
    let in_range : i < length p.components = subst (λ (cs : List Component). i < length cs) is c.loop-component-test.true in
    subst (λ (cs : List Component). AreLastsSoFar p (set c.loop-component.lasts.items (get_or cs i d).head (get_or cs i d).end) (i + 1)) (sym is)
    (lasts_more p c.loop-component.lasts.items i c.axioms.ensures.axioms in_range c.loop-component.invariant)

pub returns : goal.returns
returns c =
    let p = c.args.plan.now in
    let all : length c.components-component-items.result.now ≡ length p.components = ap (λ (cs : List Component). length cs) c.components-component-items.ensures in
    let upto = c.loop-component.auto.component-index-end in
    lasts_all p c.loop-component.lasts.items c.loop-component.component-index (omega (arith, all, upto, c.loop-component-test.false)) c.loop-component.invariant
