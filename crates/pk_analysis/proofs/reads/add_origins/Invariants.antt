use Rattle.std.proofs.Common.{◌≡◌, ◌++◌, take}
use Rattle.pk_analysis.specs.Arrows.{origins}
use Rattle.pk_analysis.proofs.reads.add_origins.Given as goal

abbrev pub invariant-loop-arrow : goal.invariant-loop-arrow
invariant-loop-arrow l = l.list.items ≡ l.fn.list.items ++ origins (take l.arrow-index l.row)
