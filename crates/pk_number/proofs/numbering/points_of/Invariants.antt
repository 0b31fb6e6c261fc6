use Rattle.pk_number.specs.Rows.{rows_view}
use Rattle.pk_number.proofs.PointLemmas.{AreMade}
use Rattle.pk_number.proofs.numbering.points_of.Given as goal

abbrev pub invariant-loop-k : goal.invariant-loop-k
invariant-loop-k l = AreMade l.labels (rows_view l.initial.rows.items) l.numbers l.order l.k l.rows.items l.points.items
