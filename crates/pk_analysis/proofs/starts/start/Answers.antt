use Rattle.std.proofs.Common.{◌≡◌, ◌<◌, ◌≤◌, ℕ, length, ap, sym, subst, ◌∙◌}
use Rattle.pk_graph.specs.Shown.{graph_view}
use Rattle.pk_graph.specs.Kinds.{Kinds}
use Rattle.pk_value.specs.Known.{Known}
use Rattle.pk_octagons.specs.Values.{type_at, IsValue}
use Rattle.pk_state.specs.Layouts.{Layout}
use Rattle.pk_state.specs.Facts.{Stated}
use Rattle.pk_state.specs.Changes.{with_known}
use Rattle.pk_transfer.specs.Slots.{slot_types}
use Rattle.pk_analysis.specs.Flows.{stated}
use Rattle.pk_analysis.specs.Starts.{start_values, AreTyped}
use Rattle.pk_analysis.proofs.StartLemmas.{started_next, started_whole, starts_all, kinds_same, value_there, value_typed}
use Rattle.pk_analysis.proofs.starts.start.Goals as goal

pub values-requires : goal.values-requires
values-requires c = starts_all (graph_view c.args.graph.now) c.variables.result.now c.well_made.ensures c.variables.ensures

pub with_value-requires-clause-place : goal.with_value-requires-clause-place
with_value-requires-clause-place c =
    let g = graph_view c.args.graph.now in
    let typed = subst (λ (ks : Kinds). AreTyped c.in_ok-values.values.items (slot_types ks)) (kinds_same g c.variables.result.now c.variables.ensures) c.in_ok-values.ensures.inside in
    subst (λ (y : Layout). c.loop-j.j < length y.types) (sym (ap (λ (s : Stated). s.layout) c.loop-j.invariant))
    (value_there g c.args.frame.now c.args.frame.now.packs c.in_ok-values.values.items c.loop-j.j c.requires typed (subst (λ (n : ℕ). c.loop-j.j < n) (c.len-j-end.ensures ∙ c.in_ok-values.values.ok.0) c.loop-j-test.true))

pub with_value-requires-clause-value : goal.with_value-requires-clause-value
with_value-requires-clause-value c =
    let g = graph_view c.args.graph.now in
    let typed = subst (λ (ks : Kinds). AreTyped c.in_ok-values.values.items (slot_types ks)) (kinds_same g c.variables.result.now c.variables.ensures) c.in_ok-values.ensures.inside in
    subst (λ (y : Layout). IsValue (type_at y.types c.loop-j.j) c.index.result.now) (sym (ap (λ (s : Stated). s.layout) c.loop-j.invariant))
    (subst (IsValue (type_at c.args.frame.now.types c.loop-j.j)) (sym c.index.ensures)
    (value_typed g c.args.frame.now c.args.frame.now.packs c.in_ok-values.values.items c.loop-j.j _ c.requires typed (subst (λ (n : ℕ). c.loop-j.j < n) (c.len-j-end.ensures ∙ c.in_ok-values.values.ok.0) c.loop-j-test.true)))

pub loop-j-preserved : goal.loop-j-preserved
loop-j-preserved c =
    let g = graph_view c.args.graph.now in
    let so : c.loop-j.state.layout ≡ c.args.frame.now = ap (λ (s : Stated). s.layout) c.loop-j.invariant in
    let all = c.in_ok-values.ensures.values ∙ ap start_values c.variables.ensures in
    let typed = subst (λ (ks : Kinds). AreTyped c.in_ok-values.values.items (slot_types ks)) (kinds_same g c.variables.result.now c.variables.ensures) c.in_ok-values.ensures.inside in
    started_next g c.args.frame.now c.args.frame.now.packs c.loop-j.j c.loop-j.state c.in_ok-state-2.state c.in_ok-values.values.items _ c.requires all typed (subst (λ (n : ℕ). c.loop-j.j < n) (c.len-j-end.ensures ∙ c.in_ok-values.values.ok.0) c.loop-j-test.true) c.loop-j.invariant
    (c.in_ok-state-2.ensures ∙ ap (λ (y : Layout). stated y (with_known c.loop-j.state.facts c.loop-j.j c.index.result.now)) so ∙ ap (λ (v : Known). stated c.args.frame.now (with_known c.loop-j.state.facts c.loop-j.j v)) c.index.ensures)

pub returns : goal.returns
returns c =
    let g = graph_view c.args.graph.now in
    let all = c.in_ok-values.ensures.values ∙ ap start_values c.variables.ensures in
    let typed = subst (λ (ks : Kinds). AreTyped c.in_ok-values.values.items (slot_types ks)) (kinds_same g c.variables.result.now c.variables.ensures) c.in_ok-values.ensures.inside in
    started_whole g c.args.frame.now c.args.frame.now.packs c.loop-j.j c.loop-j.state c.in_ok-values.values.items c.requires all typed (subst (λ (n : ℕ). n ≤ c.loop-j.j) (c.len-j-end.ensures ∙ c.in_ok-values.values.ok.0) c.loop-j-test.false) c.loop-j.invariant
