use Rattle.std.proofs.Common.{◌≡◌, ℕ, List, ap, sym, subst}
use Rattle.pk_graph.specs.Graphs.{kinds_of}
use Rattle.pk_graph.specs.Shown.{graph_view}
use Rattle.pk_state.specs.Layouts.{Layout}
use Rattle.pk_cert_states.specs.Lines.{line_slots}
use Rattle.pk_cert_states.specs.Parts.{IsOrder, ArePlaces}
use Rattle.pk_cert_states.proofs.Ordering.{line_order, line_whole, total_is}
use Rattle.pk_cert_states.proofs.Reading.{kinds_same}
use Rattle.pk_cert_states.proofs.orders.Order.new.Goals as goal

pub add_arrays-requires : goal.add_arrays-requires
add_arrays-requires c =
    let g = graph_view c.args.graph.now in
    let vs = c.variables-variables.result.now in
    total_is vs (kinds_of g) c.args.frame.now.types _ (kinds_same g vs c.variables-variables.ensures) (ap (λ (l : Layout). l.types) c.requires.1) c.len-2.ensures

pub places_of-requires : goal.places_of-requires
places_of-requires c =
    let g = graph_view c.args.graph.now in
    let vs = c.variables-variables.result.now in
    let whole : c.add_arrays.new.slots.items ≡ line_slots (kinds_of g) = line_whole vs (kinds_of g) c.in_ok-slots.slots.items c.add_scalars.new.slots.items c.add_arrays.new.slots.items (kinds_same g vs c.variables-variables.ensures) c.in_ok-slots.ensures.items c.in_ok-add_scalars.ensures c.in_ok-add_arrays.ensures in
    subst IsOrder (sym c.deref.ensures.value) (subst IsOrder (sym whole) (line_order (kinds_of g)))

pub invariant_of-result : goal.invariant_of-result
invariant_of-result c =
    let g = graph_view c.args.graph.now in
    let vs = c.variables-variables.result.now in
    let whole : c.add_arrays.new.slots.items ≡ line_slots (kinds_of g) = line_whole vs (kinds_of g) c.in_ok-slots.slots.items c.add_scalars.new.slots.items c.add_arrays.new.slots.items (kinds_same g vs c.variables-variables.ensures) c.in_ok-slots.ensures.items c.in_ok-add_scalars.ensures c.in_ok-add_arrays.ensures in (
      subst IsOrder (sym whole) (line_order (kinds_of g)),
      subst (λ (js : List ℕ). ArePlaces js c.in_ok-places.places.items) c.deref.ensures.value c.in_ok-places.ensures,
    )

pub returns : goal.returns
returns c =
    let g = graph_view c.args.graph.now in
    let vs = c.variables-variables.result.now in
    line_whole vs (kinds_of g) c.in_ok-slots.slots.items c.add_scalars.new.slots.items c.add_arrays.new.slots.items (kinds_same g vs c.variables-variables.ensures) c.in_ok-slots.ensures.items c.in_ok-add_scalars.ensures c.in_ok-add_arrays.ensures
