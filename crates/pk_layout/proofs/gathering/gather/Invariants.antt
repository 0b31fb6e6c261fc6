use Rattle.std.proofs.Common.{◌≡◌}
use Rattle.pk_layout.specs.Gathered.{gathered, AreStarts}
use Rattle.pk_layout.proofs.gathering.gather.Given as goal

abbrev pub invariant-loop-e : goal.invariant-loop-e
invariant-loop-e g l = record {
  targets : l.targets.items ≡ gathered (g.Y.System.meaning l.system).reads l.e;
  from : AreStarts (g.Y.System.meaning l.system).reads l.e l.from.items;
}
