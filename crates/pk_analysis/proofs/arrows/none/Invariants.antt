use Rattle.std.proofs.Common.{◌≡◌, [], replicate}
use Rattle.pk_analysis.specs.Arrows.{rows_of}
use Rattle.pk_analysis.proofs.arrows.none.Given as goal

abbrev pub invariant-loop : goal.invariant-loop
invariant-loop l = rows_of l.rows.items ≡ replicate l.counter []
