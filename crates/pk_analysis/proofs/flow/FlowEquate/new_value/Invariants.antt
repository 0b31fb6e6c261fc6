use Rattle.std.proofs.Common.{map}
use Rattle.std.specs.Arc.{arc_value}
use Rattle.pk_analysis.proofs.FlowLemmas.{IsArrivedTo}
use Rattle.pk_analysis.proofs.flow.FlowEquate.new_value.Given as goal

abbrev pub invariant-loop-i : goal.invariant-loop-i
invariant-loop-i l = IsArrivedTo l.self l.e (map arc_value l.cells) l.i l.state
