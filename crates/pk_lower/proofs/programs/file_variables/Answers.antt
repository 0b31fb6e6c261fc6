use Rattle.std.proofs.Common.{arith}
use Rattle.pk_lower.proofs.ProgramLemmas.{variables_end}
use Rattle.pk_lower.proofs.programs.file_variables.Goals as goal

pub returns : goal.returns
returns c = variables_end c.args.unit.now c.loop-object.variables.items c.loop-object.object-index (omega arith) c.loop-object.invariant
