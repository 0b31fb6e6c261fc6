use Rattle.std.proofs.Common.{◌≡◌, ◌+◌, length}
use Rattle.pk_wpo.specs.Layouts.{end_number}
use Rattle.pk_plan.proofs.Drawing.{EdgesOf, Rows, RowTo}
use Rattle.pk_wpo.proofs.Steps.{Drawn}
use Rattle.pk_wpo.proofs.constraints.edge_constraints.Given as goal

-- what the edges from the vertices so far give
abbrev pub invariant-loop-u : goal.invariant-loop-u
invariant-loop-u l =
    record {
      long : length l.constraints ≡ end_number l.layout + 1;
      edges : EdgesOf (Rows l.graph l.u) (Drawn l.layout) l.constraints;
    }

-- and those from this one to its successors so far
abbrev pub invariant-loop-v : goal.invariant-loop-v
invariant-loop-v l =
    record {
      long : length l.constraints ≡ end_number l.layout + 1;
      edges : EdgesOf (RowTo l.graph l.u l.v-items l.v-index) (Drawn l.layout) l.constraints;
    }
