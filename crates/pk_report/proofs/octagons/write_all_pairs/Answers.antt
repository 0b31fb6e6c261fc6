use Rattle.std.proofs.Common.{◌∙◌, ◌+◌, ℕ, ap, refl, List, ◌++◌, slice_index_or}
use Rattle.std.specs.List.{flat_map}
use Rattle.std.proofs.lemmas.List.{take_rest}
use Rattle.pk_graph.specs.Shown.{graph_view}
use Rattle.pk_report.specs.Values.{pair_lines_if}
use Rattle.pk_report.proofs.OctagonLemmas.{paired_next, paired_end}
use Rattle.pk_report.proofs.octagons.write_all_pairs.Goals as goal

pub loop-k-init : goal.loop-k-init
loop-k-init c = refl

pub write_pairs-requires-clause-first : goal.write_pairs-requires-clause-first
write_pairs-requires-clause-first c = c.requires.variables c.loop-k.k 0 c.loop-k-test.true

pub write_pairs-requires-clause-first_small : goal.write_pairs-requires-clause-first_small
write_pairs-requires-clause-first_small c = c.requires.small c.loop-k.k 0 c.loop-k-test.true

pub loop-k-preserved : goal.loop-k-preserved
loop-k-preserved c =
    let line = pair_lines_if (graph_view c.args.graph.now) c.args.state.now.layout c.args.state.now.facts in
    paired_next line c.args.list.now c.loop-k.k 0 c.args.bytes.now.items c.loop-k.bytes.items c.write_pairs.new.bytes.items c.loop-k-test.true
    (c.in_ok-write_pairs.ensures ∙ ap (λ (xs : List ℕ). c.loop-k.bytes.items ++ flat_map (line (slice_index_or c.args.list.now c.loop-k.k 0)) xs) (take_rest c.args.list.now (c.loop-k.k + 1)))
    c.loop-k.invariant

pub returns : goal.returns
returns c =
    paired_end (pair_lines_if (graph_view c.args.graph.now) c.args.state.now.layout c.args.state.now.facts) c.args.list.now c.loop-k.k c.args.bytes.now.items c.loop-k.bytes.items c.loop-k-test.false c.loop-k.invariant
