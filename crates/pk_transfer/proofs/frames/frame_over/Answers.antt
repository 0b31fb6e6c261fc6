use Rattle.std.proofs.Common.{◌≡◌, sym, subst}
use Rattle.std.specs.Prelude.{IfOk}
use Rattle.pk_graph.specs.Shown.{graph_view}
use Rattle.pk_state.specs.Layouts.{Layout, IsLayout}
use Rattle.pk_transfer.proofs.LayoutLemmas.{kinds_are, slots_made, further_made, layout_made}
use Rattle.pk_transfer.proofs.frames.frame_over.Goals as goal

pub new-requires : goal.new-requires
new-requires c =
    let g = graph_view c.args.graph.now in
    let vs = c.variables-variables.result.now in
    let are = kinds_are g vs c.variables-variables.ensures in
    let types = slots_made g vs c.in_ok-types.types.items c.further_slots.new.types.items are c.in_ok-types.ensures c.in_ok-further.ensures.types in
    let further = further_made g vs c.in_ok-types.types.items c.in_ok-further.further.items are c.in_ok-types.ensures c.in_ok-further.ensures.from in
    subst IsLayout (sym (layout_made g c.further_slots.new.types.items c.args.packs.items c.in_ok-further.further.items types further)) (c.graphs_law.ensures.layouts_of_packs g c.args.packs.items c.requires)

pub returns : goal.returns
returns c =
    let g = graph_view c.args.graph.now in
    let vs = c.variables-variables.result.now in
    let are = kinds_are g vs c.variables-variables.ensures in
    let types = slots_made g vs c.in_ok-types.types.items c.further_slots.new.types.items are c.in_ok-types.ensures c.in_ok-further.ensures.types in
    let further = further_made g vs c.in_ok-types.types.items c.in_ok-further.further.items are c.in_ok-types.ensures c.in_ok-further.ensures.from in
    subst (λ (l : Layout). IfOk c.new.result (λ (f : Layout). f ≡ l)) (layout_made g c.further_slots.new.types.items c.args.packs.items c.in_ok-further.further.items types further) c.new.ensures
