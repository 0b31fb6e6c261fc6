use Rattle.std.proofs.Common.{◌≤◌, length, ap, sym, ◌∙◌, arith}
use Rattle.std.specs.Global.{Vec}
use Rattle.std.proofs.lemmas.List.{length-map}
use Rattle.pk_graph.specs.Shown.{graph_view}
use Rattle.pk_analysis.specs.declared.arrows.Arrow.{Arrow}
use Rattle.pk_analysis.specs.Arrows.{arrows_at}
use Rattle.pk_analysis.specs.Flows.{Flow}
use Rattle.pk_analysis.proofs.ArrowLemmas.{none_past}
use Rattle.pk_analysis.proofs.flow.row.Goals as goal

pub returns-then-v-len : goal.returns-then-v-len
returns-then-v-len c =
    let g = graph_view c.flow.inside.graph.now in
    let size = c.flow.invariant.arrows_are.size in
    let kept = length-map c.flow.inside.arrows.items (λ (v : Vec Arrow). v.items) in
    let far : length g.points ≤ c.args.v = omega (arith, size, kept, c.len.ensures, c.if-v-len.true) in
    sym (none_past g c.args.v c.well_made.ensures far) ∙ ap (λ (a : Flow). arrows_at (graph_view a.graph) c.args.v) c.flow.view_is
