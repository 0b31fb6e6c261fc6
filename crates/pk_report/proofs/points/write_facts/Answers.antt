use Rattle.std.proofs.Common.{ap, ◌∙◌, List, ℕ, ◌++◌, slice_index_or}
use Rattle.std.specs.List.{flat_map}
use Rattle.pk_graph.specs.Shown.{graph_view}
use Rattle.pk_report.specs.Values.{related, of_pairs, value_lines_if, pair_lines_if}
use Rattle.pk_report.proofs.WriteLemmas.{two}
use Rattle.pk_report.proofs.PointLemmas.{some_known}
use Rattle.pk_report.proofs.points.write_facts.Goals as goal

pub write_octagons-requires : goal.write_octagons-requires
write_octagons-requires c = λ k d below. c.requires.slots.own (slice_index_or c.args.visible.now k d) (c.requires.visible k d below)

pub returns : goal.returns
returns c =
    let g = graph_view c.args.graph.now in
    two c.args.bytes.now.items (flat_map (value_lines_if g c.args.state.now.layout c.args.state.now.facts) c.args.visible.now) (of_pairs (pair_lines_if g c.args.state.now.layout c.args.state.now.facts) (related c.args.state.now.layout c.args.visible.now))
    c.write_values.new.bytes.items c.write_octagons.new.bytes.items c.in_ok-write_values.ensures c.in_ok-write_octagons.ensures
    ∙ ap (λ (xs : List ℕ). c.args.bytes.now.items ++ xs) (some_known g c.args.state.now.layout c.args.state.now.facts c.args.visible.now (λ e. cc (c.is_bottom.ensures.1 e, c.if-is_bottom.false)))
