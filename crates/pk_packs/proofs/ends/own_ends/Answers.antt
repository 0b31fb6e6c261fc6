use Rattle.std.proofs.Common.{◌<◌, ◌≤◌, ◌≡◌, ℕ, List, ap, ◌∙◌, sym, subst, length, slice_index_or}
use Rattle.std.proofs.lemmas.List.{get_or_default}
use Rattle.pk_plan.specs.declared.components.Component.{Component}
use Rattle.pk_plan.specs.Plans.{PlanView}
use Rattle.pk_plan.specs.Axioms.{Axioms}
use Rattle.pk_packs.proofs.EndLemmas.{AreOwnSoFar, begins_within, own_begin, own_next, own_end}
use Rattle.pk_packs.proofs.ends.own_ends.Goals as goal

abbrev none : Component
none = record { head = 0; exit = 0; first = 0; end = 0 }

component_is : (cs ds : List Component) (k : ℕ) → cs ≡ ds → k < length cs → slice_index_or ds k (slice_index_or cs k none) ≡ slice_index_or cs k none
component_is cs ds k e h =
    let it = slice_index_or cs k none in
    ap (λ (es : List Component). slice_index_or es k it) (sym e) ∙ get_or_default cs k it none h

begins_at : (p : PlanView) (cs : List Component) (k : ℕ) (ends : List ℕ) → Axioms p → cs ≡ p.components → k < length cs → AreOwnSoFar p k ends → (slice_index_or cs k none).first < length ends
begins_at p cs k ends axioms e h before =
    begins_within p k (slice_index_or cs k none) ends axioms (subst (λ (ds : List Component). k < length ds) e h) (component_is cs p.components k e h) before

within : (x n m : ℕ) → x < n → m ≡ n → x < m
within x n m h e = subst (λ (k : ℕ). x < k) (sym e) h

pub index-requires : goal.index-requires
index-requires c =
    within _ _ _
    (begins_at c.args.plan.now c.components-components.result.now c.loop-number.number c.loop-number.ends.items c.axioms.ensures.axioms c.components-components.ensures c.loop-number-test.true
    c.loop-number.invariant)
    c.loop-number.ends.ok.0

pub index_mut-requires : goal.index_mut-requires
index_mut-requires c =
    within _ _ _
    (begins_at c.args.plan.now c.components-components.result.now c.loop-number.number c.loop-number.ends.items c.axioms.ensures.axioms c.components-components.ensures c.loop-number-test.true
    c.loop-number.invariant)
    c.loop-number.ends.ok.0

pub loop-number-init : goal.loop-number-init
loop-number-init c = own_begin c.args.plan.now c.elements.result c.in_ok-ends.ends.items c.elements.ensures (c.in_ok-ends.ensures.items_if_clones_equal (λ y e. e))

pub loop-number-preserved : goal.loop-number-preserved
loop-number-preserved c =
    let cs = c.components-components.result.now in
    let k = c.loop-number.number in
    let it : Component = slice_index_or cs k none in
    own_next c.args.plan.now k it c.loop-number.ends.items c.index.result.now c.max.result c.axioms.ensures.axioms
    (subst (λ (ds : List Component). k < length ds) c.components-components.ensures c.loop-number-test.true)
    (component_is cs c.args.plan.now.components k c.components-components.ensures c.loop-number-test.true)
    c.index.ensures c.max.ensures c.loop-number.invariant

pub returns : goal.returns
returns c =
    own_end c.args.plan.now c.loop-number.number c.loop-number.ends.items
    (subst (λ (cs : List Component). length cs ≤ c.loop-number.number) c.components-components.ensures c.loop-number-test.false) c.loop-number.invariant
