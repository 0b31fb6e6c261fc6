use Rattle.std.proofs.Common.{◌≡◌, None, ap, sym, subst, map, ◌∙◌}
use Rattle.std.specs.Arc.{arc_value}
use Rattle.pk_graph.specs.Shown.{graph_view}
use Rattle.pk_state.specs.Facts.{Stated, AreFactsIf}
use Rattle.pk_phases.specs.declared.equations.Cell.{Cell}
use Rattle.pk_phases.specs.Equations.{value_of}
use Rattle.pk_analysis.specs.Orders.{is_below}
use Rattle.pk_analysis.specs.Flows.{stated}
use Rattle.pk_sound.specs.Families.{given_on}
use Rattle.pk_cert_check.specs.Checked.{cell_in, known_by}
use Rattle.pk_cert_check.proofs.Running.{cell_there, same_below}
use Rattle.pk_cert_check.proofs.checks.passes.Goals as goal

pub is_same-requires : goal.is_same-requires
is_same-requires c =
    let a = c.args.analysis.now in
    let cells = map arc_value c.args.cells.now in
    let there : cell_in a.layout cells c.args.v ≡ c.deref.result.now =
    cell_there a.layout arc_value c.args.cells.now _ c.args.v c.index-cells-v.result c.requires.cells.enough c.requires.point c.index-cells-v.is ∙ ap arc_value c.index-cells-v.is ∙ sym c.deref.ensures in
    let h = c.requires.cells.each c.args.v c.requires.point in
    (a.layout, (given_on (graph_view a.graph) a.layout (known_by a.layout cells) c.args.v, c.in_ok-given.ensures), (h.0, sym there ∙ h.1))

pub returns-then-is_same-clause-test : goal.returns-then-is_same-clause-test
returns-then-is_same-clause-test c =
    let a = c.args.analysis.now in
    let cells = map arc_value c.args.cells.now in
    let there : cell_in a.layout cells c.args.v ≡ c.deref.result.now =
    cell_there a.layout arc_value c.args.cells.now _ c.args.v c.index-cells-v.result c.requires.cells.enough c.requires.point c.index-cells-v.is ∙ ap arc_value c.index-cells-v.is ∙ sym c.deref.ensures in
    let h = c.requires.cells.each c.args.v c.requires.point in
    same_below a.layout cells c.args.v (given_on (graph_view a.graph) a.layout (known_by a.layout cells) c.args.v) c.deref.result.now there (sym c.in_ok-given.ensures ∙ c.is_same.ensures.same c.if-is_same.true)
    (subst (AreFactsIf a.layout) (sym (ap (λ (x : Cell Stated). (value_of (stated a.layout None) x).facts) h.1)) (c.is_same.ensures.facts a.layout h.0 (sym there ∙ h.1)))

pub returns-then-is_same-clause-facts : goal.returns-then-is_same-clause-facts
returns-then-is_same-clause-facts c =
    let a = c.args.analysis.now in
    let cells = map arc_value c.args.cells.now in
    let there : cell_in a.layout cells c.args.v ≡ c.deref.result.now =
    cell_there a.layout arc_value c.args.cells.now _ c.args.v c.index-cells-v.result c.requires.cells.enough c.requires.point c.index-cells-v.is ∙ ap arc_value c.index-cells-v.is ∙ sym c.deref.ensures in
    let h = c.requires.cells.each c.args.v c.requires.point in
    subst (AreFactsIf a.layout) (sym (ap (λ (x : Cell Stated). (value_of (stated a.layout None) x).facts) h.1)) (c.is_same.ensures.facts a.layout h.0 (sym there ∙ h.1))

pub is_within-requires : goal.is_within-requires
is_within-requires c =
    let a = c.args.analysis.now in
    let cells = map arc_value c.args.cells.now in
    let there : cell_in a.layout cells c.args.v ≡ c.deref-2.result.now =
    cell_there a.layout arc_value c.args.cells.now _ c.args.v c.index-cells-v-2.result c.requires.cells.enough c.requires.point c.index-cells-v-2.is ∙ ap arc_value c.index-cells-v-2.is ∙ sym c.deref-2.ensures in
    let h = c.requires.cells.each c.args.v c.requires.point in
    (a.layout, (given_on (graph_view a.graph) a.layout (known_by a.layout cells) c.args.v, c.in_ok-given.ensures), (h.0, sym there ∙ h.1))

pub returns-clause-test : goal.returns-clause-test
returns-clause-test c =
    let a = c.args.analysis.now in
    let cells = map arc_value c.args.cells.now in
    let there : cell_in a.layout cells c.args.v ≡ c.deref-2.result.now =
    cell_there a.layout arc_value c.args.cells.now _ c.args.v c.index-cells-v-2.result c.requires.cells.enough c.requires.point c.index-cells-v-2.is ∙ ap arc_value c.index-cells-v-2.is ∙ sym c.deref-2.ensures in
    c.is_within.ensures.below a.layout
    ∙ ap (λ (x : Cell Stated). is_below (value_of (stated a.layout None) x).facts (value_of (stated a.layout None) c.deref-2.result.now).facts) c.in_ok-given.ensures
    ∙ ap (λ (x : Cell Stated). is_below (given_on (graph_view a.graph) a.layout (known_by a.layout cells) c.args.v) (value_of (stated a.layout None) x).facts) (sym there)

pub returns-clause-facts : goal.returns-clause-facts
returns-clause-facts c =
    let a = c.args.analysis.now in
    let cells = map arc_value c.args.cells.now in
    let there : cell_in a.layout cells c.args.v ≡ c.deref-2.result.now =
    cell_there a.layout arc_value c.args.cells.now _ c.args.v c.index-cells-v-2.result c.requires.cells.enough c.requires.point c.index-cells-v-2.is ∙ ap arc_value c.index-cells-v-2.is ∙ sym c.deref-2.ensures in
    let h = c.requires.cells.each c.args.v c.requires.point in
    subst (AreFactsIf a.layout) (sym (ap (λ (x : Cell Stated). (value_of (stated a.layout None) x).facts) h.1)) (c.is_within.ensures.facts a.layout h.0 (sym there ∙ h.1))
