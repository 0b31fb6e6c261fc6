use Rattle.pk_front.proofs.ProgramLemmas.{program_unit, program_paths}
use Rattle.pk_front.proofs.laws.program_is_determined.Goals as goal

pub returns : goal.returns
returns c =
    let law = c.units_are_determined.ensures in
    record { unit = program_unit law; paths = program_paths law }
