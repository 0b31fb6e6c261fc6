use Rattle.std.proofs.Common.{◌≡◌, ◌<◌, ◌+◌, ℕ, List, [], ◌∷◌, ◌++◌, ap, sym, ◌∙◌, length, map, take, slice_index_or}
use Rattle.std.proofs.lemmas.List.{map_more, take_all}
use Rattle.pk_graph.specs.Shown.{graph_view}
use Rattle.pk_plan.specs.declared.components.Component.{Component}
use Rattle.pk_packs.specs.Belongs.{lies_in, lies_in_none}
use Rattle.pk_packs.specs.Packs.{variables_over}
use Rattle.pk_packs.proofs.answers.packs.Goals as goal

abbrev none : Component
none = record { head = 0; exit = 0; first = 0; end = 0 }

pushed : (old new : List (List ℕ)) (pack rest : List ℕ) (f : Component → List ℕ) (cs : List Component) (k : ℕ) (d : Component) → k < length cs
    → new ≡ old ++ pack ∷ [] → pack ≡ f (slice_index_or cs k d) → old ≡ rest ∷ map f (take k cs) → new ≡ rest ∷ map f (take (k + 1) cs)
pushed old new pack rest f cs k d h e is before =
    e
    ∙ ap (λ (ls : List (List ℕ)). ls ++ pack ∷ []) before
    ∙ ap (λ (xs : List ℕ). (rest ∷ map f (take k cs)) ++ xs ∷ []) is
    ∙ ap (λ (ls : List (List ℕ)). rest ∷ ls) (sym (map_more f cs k d h))

pub loop-component-init : goal.loop-component-init
loop-component-init c =
    c.in_ok-push.ensures.items ∙ ap (λ (ls : List (List ℕ)). ls ++ c.in_ok-rest_pack.field-0 ∷ []) c.new-packs.ensures.items
    ∙ ap (λ (xs : List ℕ). xs ∷ []) c.in_ok-rest_pack.ensures

pub loop-component-preserved : goal.loop-component-preserved
loop-component-preserved c =
    let g = graph_view c.args.graph.now in
    let p = c.args.plan.now in
    pushed c.loop-component.packs.items c.push-in-loop-component.new.self.items c.in_ok-component_pack.field-0 (variables_over g (lies_in_none p) c.args.most)
    (λ (d : Component). variables_over g (lies_in p d) c.args.most) c.components-components.result.now c.loop-component.component-index none c.loop-component-test.true
    c.in_ok-push-2.ensures.items c.in_ok-component_pack.ensures c.loop-component.invariant

pub returns-clause-packs : goal.returns-clause-packs
returns-clause-packs c =
    let g = graph_view c.args.graph.now in
    let p = c.args.plan.now in
    let rest = variables_over g (lies_in_none p) c.args.most in
    let f = λ (d : Component). variables_over g (lies_in p d) c.args.most in
    c.new.ensures ∙ c.loop-component.invariant
    ∙ ap (λ (cs : List Component). rest ∷ map f cs) (take_all c.loop-component.component-index c.components-components.result.now c.loop-component-test.false ∙ c.components-components.ensures)
