use Rattle.std.proofs.Common.{◌<◌, ◌^◌, ◌∙◌, ℕ, ap, sym, subst, All, List, ◌++◌, length}
use Rattle.pk_graph.specs.Shown.{graph_view}
use Rattle.pk_report.specs.Values.{of_pairs, pair_lines_if}
use Rattle.pk_report.proofs.OctagonLemmas.{related_below}
use Rattle.pk_report.proofs.octagons.write_octagons.Goals as goal

pub write_all_pairs-requires-clause-variables : goal.write_all_pairs-requires-clause-variables
write_all_pairs-requires-clause-variables c =
    subst (λ (xs : List ℕ). All (λ (x : ℕ). x < length c.args.state.now.layout.types) xs) (sym (c.deref.ensures.value ∙ c.in_ok-list.ensures.value))
    (related_below (length c.args.state.now.layout.types) c.args.state.now.layout c.args.visible.now c.requires)

pub write_all_pairs-requires-clause-small : goal.write_all_pairs-requires-clause-small
write_all_pairs-requires-clause-small c = subst (λ (xs : List ℕ). All (λ (x : ℕ). x < 2 ^ 63) xs) (sym c.deref.ensures.value) c.in_ok-list.ensures.small

pub returns : goal.returns
returns c =
    c.in_ok-write_all_pairs.ensures
    ∙ ap (λ (xs : List ℕ). c.args.bytes.now.items ++ of_pairs (pair_lines_if (graph_view c.args.graph.now) c.args.state.now.layout c.args.state.now.facts) xs) (c.deref.ensures.value ∙ c.in_ok-list.ensures.value)
