use Rattle.std.proofs.Common.{sym, subst}
use Rattle.std.specs.Arc.{arc_value}
use Rattle.pk_phases.specs.declared.equations.Cell.{Cell}
use Rattle.pk_phases.specs.Equations.{value_of}
use Rattle.pk_phases.proofs.Inputs_held.{of_exit}
use Rattle.pk_phases.proofs.phased.PhasedSystem.decide.Goals as goal

pub exit_phase-requires : goal.exit_phase-requires
exit_phase-requires g c =
    let q = g.E.Equate.meaning c.args.self.now.equations in
    let held = g.E.Equate.held c.args.self.now.equations in
    let keeps = g.E.Equate.keeps c.args.self.now.equations in
    let own = of_exit q held keeps arc_value c.in-ExitOf.head c.args.x c.args.inputs.now c.old-item.result c.in_ok-new-in-len2-up.new (sym c.in-ExitOf.ensures) c.in-len2-up.len_at_least c.old-item.is c.in_ok-new-in-len2-up.ensures c.requires in
    (own.0, subst (λ (x : Cell g.row.E-Value.Denot). held own.0 (value_of q.bottom x)) (sym c.deref-in-len2-up.ensures) own.1, own.2)
