use Rattle.pk_analysis.specs.Arrows.{rows_of}
use Rattle.pk_analysis.proofs.ReadLemmas.{ReadsTo}
use Rattle.pk_analysis.proofs.reads.reads.Given as goal

abbrev pub invariant-loop-e : goal.invariant-loop-e
invariant-loop-e l = ReadsTo (rows_of l.arrows) l.parts l.e (rows_of l.lists.items)
