use Rattle.std.proofs.Common.{◌≡◌, ◌<◌, ◌≤◌, ℕ, List, length, get_or, max, ap, sym, subst, ◌∙◌, arith}
use Rattle.std.proofs.lemmas.Grind.{get_or_default_zero}
use Rattle.std.proofs.lemmas.List.{get_or_default}
use Rattle.pk_plan.specs.declared.components.Component.{Component}
use Rattle.pk_plan.proofs.PlanLemmas.{Of, first_before_end, end_within}
use Rattle.pk_items.proofs.Walking.{one_end, all_ends}
use Rattle.pk_items.proofs.items.ends_from.Goals as goal

pub loop-component-preserved : goal.loop-component-preserved
loop-component-preserved c =
    let p = c.args.plan.now in
    let k = c.loop-component.component-index in
    let read = c.components-component-items.result.now in
    let ends = c.loop-component.ends.items in
    let none : Component = record { head = 0; exit = 0; first = 0; end = 0 } in
    let component = get_or read k none in
    let same : read ≡ p.components = c.components-component-items.ensures in
    let in_range : k < length p.components = subst (λ (cs : List Component). k < length cs) same c.loop-component-test.true in
    let of : Of p component = (k, in_range, ap (λ (cs : List Component). get_or cs k component) (sym same) ∙ get_or_default read k component none c.loop-component-test.true) in
    let low : component.first < length ends = (let f = first_before_end p component c.axioms.ensures.axioms of in let e = end_within p component c.axioms.ensures.axioms of in omega (arith, f, e, c.loop-component.invariant.long)) in
    let old = c.index.ensures ∙ get_or_default_zero ends component.first c.index.result.now low in
    one_end p c.axioms.ensures.axioms k c.max.result component ends of (let z : k ≡ k = omega arith in z) (c.max.ensures ∙ ap (λ (n : ℕ). max n component.end) old) c.loop-component.invariant

pub returns : goal.returns
returns c =
    let p = c.args.plan.now in
    all_ends p c.loop-component.component-index c.loop-component.ends.items (subst (λ (cs : List Component). length cs ≤ c.loop-component.component-index) c.components-component-items.ensures c.loop-component-test.false) c.loop-component.invariant
