use Rattle.std.proofs.Common.{◌≡◌, length}
use Rattle.pk_wpo.proofs.Steps.{HeadsTo}
use Rattle.pk_wpo.proofs.constraints.add_head_constraints.Given as goal

abbrev pub invariant-loop-e : goal.invariant-loop-e
invariant-loop-e l =
    record {
      long : length l.constraints ≡ length l.initial.constraints;
      heads : HeadsTo l.layout l.initial.constraints l.constraints l.e;
    }
