use Rattle.std.proofs.Common.{◌≡◌, length}
use Rattle.pk_wpo.proofs.Steps.{EndsTo}
use Rattle.pk_wpo.proofs.constraints.add_end_constraints.Given as goal

abbrev pub invariant-loop-e : goal.invariant-loop-e
invariant-loop-e l =
    record {
      long : length l.constraints ≡ length l.initial.constraints;
      ends : EndsTo l.end l.initial.constraints l.constraints l.e;
    }
