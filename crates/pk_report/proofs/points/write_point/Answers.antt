use Rattle.std.proofs.Common.{◌<◌, ap, sym, subst, ◌∙◌, List, ℕ, ◌++◌, All, length}
use Rattle.pk_graph.specs.Shown.{graph_view}
use Rattle.pk_report.specs.Values.{facts_lines}
use Rattle.pk_report.specs.Reports.{heading}
use Rattle.pk_graph.specs.Visible.{visible_at}
use Rattle.pk_report.proofs.WriteLemmas.{two}
use Rattle.pk_report.proofs.PointLemmas.{visible_below}
use Rattle.pk_report.proofs.points.write_point.Goals as goal

pub write_facts-requires-clause-visible : goal.write_facts-requires-clause-visible
write_facts-requires-clause-visible c =
    let g = graph_view c.args.graph.now in
    subst (λ (xs : List ℕ). All (λ (x : ℕ). x < length g.variables) xs) (sym (c.deref.ensures.value ∙ c.in_ok-visible.ensures))
    (visible_below g c.args.point c.well_made.ensures c.requires.point)

pub returns : goal.returns
returns c =
    let g = graph_view c.args.graph.now in
    two c.args.bytes.now.items (heading g c.args.is_head c.args.point) (facts_lines g c.args.state.now.layout c.args.state.now.facts (visible_at g c.args.point))
    c.write_heading.new.bytes.items c.write_facts.new.bytes.items c.in_ok-write_heading.ensures
    (c.in_ok-write_facts.ensures ∙ ap (λ (xs : List ℕ). c.write_heading.new.bytes.items ++ facts_lines g c.args.state.now.layout c.args.state.now.facts xs) (c.deref.ensures.value ∙ c.in_ok-visible.ensures))
