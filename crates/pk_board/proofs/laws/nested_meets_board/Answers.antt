use Rattle.std.proofs.Common.{arith}
use Rattle.pk_core.specs.Nested.{nested_plan, nested_system, nested_order}
use Rattle.pk_core.proofs.Nested_meets.{nested_meets}
use Rattle.pk_layout.proofs.Existing.{every_plan}
use Rattle.pk_board.proofs.laws.nested_meets_board.Goals as goal

pub returns : goal.returns
returns c = record {
  fits = nested_meets.fits;
  ends = (nested_order, nested_meets.ends, nested_meets.is_order);
  few = omega arith;
  wired = λ limit within. every_plan nested_system nested_plan limit nested_meets.axioms nested_meets.fits (omega arith) (omega (arith, within));
}
