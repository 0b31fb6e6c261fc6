use Rattle.std.proofs.Common.{ap, sym, ◌∙◌, List, ℕ, ◌++◌}
use Rattle.pk_graph.specs.Shown.{graph_view}
use Rattle.pk_octagons.specs.Values.{type_at}
use Rattle.pk_report.specs.declared.octagons.Bounds.{Bounds}
use Rattle.pk_report.specs.Values.{name_of, pair_text}
use Rattle.pk_report.proofs.OctagonLemmas.{small_of, pair_is}
use Rattle.pk_report.proofs.octagons.write_pair.Goals as goal

pub write_forms-requires-clause-left : goal.write_forms-requires-clause-left
write_forms-requires-clause-left c = small_of (type_at c.args.state.now.layout.types c.args.x) c.in-Some.kx c.in-Some.ensures.inside.inside

pub write_forms-requires-clause-right : goal.write_forms-requires-clause-right
write_forms-requires-clause-right c = small_of (type_at c.args.state.now.layout.types c.args.y) c.in-Some-value.ky c.in-Some-value.ensures.inside.inside

pub returns-in_ok-write_forms-in-Some-value : goal.returns-in_ok-write_forms-in-Some-value
returns-in_ok-write_forms-in-Some-value c =
    let g = graph_view c.args.graph.now in
    c.in_ok-write_forms-in-Some-value.ensures
    ∙ ap (λ (xs : List ℕ). c.args.bytes.now.items ++ pair_text xs c.name_of-right.result.now c.in-Some.kx c.in-Some-value.ky c.bounds_between-bounds.result) c.name_of-left.ensures
    ∙ ap (λ (ys : List ℕ). c.args.bytes.now.items ++ pair_text (name_of g c.args.x) ys c.in-Some.kx c.in-Some-value.ky c.bounds_between-bounds.result) c.name_of-right.ensures
    ∙ ap (λ (b : Bounds). c.args.bytes.now.items ++ pair_text (name_of g c.args.x) (name_of g c.args.y) c.in-Some.kx c.in-Some-value.ky b) c.bounds_between-bounds.ensures
    ∙ ap (λ (xs : List ℕ). c.args.bytes.now.items ++ xs) (pair_is g c.args.state.now.layout c.args.state.now.facts c.args.x c.args.y c.in-Some.kx c.in-Some-value.ky (sym c.in-Some.is ∙ c.value.ensures.value) (sym c.in-Some-value.is ∙ c.value-in-Some.ensures.value))
