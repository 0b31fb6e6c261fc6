-- A step of a graph run: from a point over one of its edges, with a store.
use Rattle.std.specs.Prelude.{ℕ, slice_index_or, Result, Ok, Err}
use Rattle.pk_graph.specs.Trees.{Skip}
use Rattle.pk_graph.specs.Steps as steps
use Rattle.pk_graph.specs.Steps.{Numbers, failure, After, To, Blocked, Wants, Faulted, effect}
use Rattle.pk_graph.specs.Stores.{Stored, storing}
use Rattle.pk_graph.specs.Graphs.{EdgeOf, GraphOf, point_at}
use Rattle.pk_graph_step.specs.declared.values.Failure.{Failure}
use Rattle.pk_graph_step.specs.declared.answers.GraphStep.{GraphStep}
use Rattle.pk_graph_step.specs.declared.answers.GraphStep.TheVariants as answers

abbrev pub no_edge : EdgeOf
no_edge = record { instr = Skip; to = 0 }

-- edge k of a point
abbrev pub edge_at : GraphOf → (p k : ℕ) → EdgeOf
edge_at g p k = slice_index_or (point_at g p).edges k no_edge

-- what is answered where an edge leads to a point
abbrev pub answer_of : (to : ℕ) → After Stored → GraphStep
answer_of q (To s) = answers.To q s
answer_of q Blocked = answers.Blocked
answer_of q (Wants t n) = answers.Wants t n
answer_of q (Faulted f) = answers.Faulted (record { fault = f.fault; site = f.site })

abbrev pub step_over : EdgeOf → Numbers → Stored → GraphStep
step_over e chosen s = answer_of e.to (effect storing chosen e.instr s)

-- what a value of the code stands for
abbrev pub value_view : {A : Type 0} → Result A Failure → Result A steps.Failure
value_view (Ok v) = Ok v
value_view (Err f) = Err (failure f.fault f.site)
