use Rattle.std.proofs.Common.{subst}
use Rattle.std.specs.Prelude.{List, []}
use Rattle.pk_typed.specs.Trees.{UnitTree}
use Rattle.pk_calls.specs.declared.listings.CallPath.{CallPath}
use Rattle.pk_report_laws.specs.Programs.Faultless.{NoRunFails}
use Rattle.pk_report_laws.specs.Programs.TrueOfPrograms.{program_of, told_by}
use Rattle.pk_report_laws.proofs.Programs.Faultless.{faultless}
use Rattle.pk_report_laws.proofs.laws.true_states_are_faultless.Goals as goal

pub returns : goal.returns
returns c = λ text entry g h states true_are none unit paths is.
    let mine_is = c.accepted_are_programs.ensures text entry h.unit h.paths h.called in
    let same_unit = c.program_is_determined.ensures.unit text entry h.unit unit h.paths paths mine_is is in
    let same_paths = c.program_is_determined.ensures.paths text entry h.unit unit h.paths paths mine_is is in
    let mine = faultless (program_of h) (told_by (program_of h) g [] states) (c.true_states_are_true_of_programs.ensures text entry g h [] states true_are).holds none in
    subst (λ (ps : List CallPath). NoRunFails (record { unit = unit; paths = ps })) same_paths
    (subst (λ (u : UnitTree). NoRunFails (record { unit = u; paths = h.paths })) same_unit mine)
