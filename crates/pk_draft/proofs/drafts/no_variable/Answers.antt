use Rattle.std.proofs.Common.{ap, List, None}
use Rattle.std.specs.Prelude.{ℤ}
use Rattle.pk_ctypes.specs.declared.types.IntType.TheVariants.{Int}
use Rattle.pk_graph.specs.Graphs.{VariableOf, number_start, variable_view, start_view}
use Rattle.pk_draft.proofs.drafts.no_variable.Goals as goal

pub returns : goal.returns
unfolding variable_view start_view
returns c =
    ap (λ (zs : List ℤ). let x : VariableOf = record { name = None; kind = record { int_type = Int; length = None }; path = None; start = number_start zs } in x) c.new.ensures.items
