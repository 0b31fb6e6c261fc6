use Rattle.std.proofs.Common.{◌<◌}
use Rattle.pk_core_tests.proofs.Driving.{Driven}
use Rattle.pk_core_tests.proofs.drives.driven.Given as goal

abbrev pub invariant-loop-step : goal.invariant-loop-step
invariant-loop-step g l = record {
  core : Driven g.Y.System.meaning l.fn.system l.fn.plan l.step l.core;
  draws : l.state < 2147483648;
}
