use Rattle.pk_report_laws.proofs.laws.reports_are_true_of_programs.Goals as goal

pub returns : goal.returns
returns c = λ text entry g h o most p heads states few are.
    let made = c.graphs_are_well_made.ensures text entry g h in
    c.true_states_are_true_of_programs.ensures text entry g h heads states (c.reports_are_true.ensures g o most p states made few are)
