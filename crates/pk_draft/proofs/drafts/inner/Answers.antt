use Rattle.std.proofs.Common.{ap, List, Some}
use Rattle.std.specs.Prelude.{ℤ}
use Rattle.pk_graph.specs.Graphs.{VariableOf, number_start, variable_view, start_view}
use Rattle.pk_draft.proofs.drafts.inner.Goals as goal

pub returns : goal.returns
unfolding variable_view start_view
returns c =
    ap (λ (zs : List ℤ). let x : VariableOf = record { name = c.args.name; kind = record { int_type = c.args.int_type; length = c.args.length }; path = Some c.args.path; start = number_start zs } in x) c.new.ensures.items
