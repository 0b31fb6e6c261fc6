use Rattle.std.proofs.Common.{sym, subst}
use Rattle.std.specs.Arc.{arc_value}
use Rattle.pk_phases.specs.declared.equations.Cell.{Cell}
use Rattle.pk_phases.specs.Equations.{value_of}
use Rattle.pk_phases.proofs.Inputs_held.{of_head}
use Rattle.pk_phases.proofs.phased.PhasedSystem.apply.Goals as goal

pub head_cell-requires : goal.head_cell-requires
head_cell-requires g c =
    let q = g.E.Equate.meaning c.args.self.now.equations in
    let held = g.E.Equate.held c.args.self.now.equations in
    let keeps = g.E.Equate.keeps c.args.self.now.equations in
    let own = of_head q held keeps arc_value c.args.e c.in-HeadOf.field-0 c.args.inputs.now c.own-item.result c.in_ok-new-in-len2-up.new (sym c.in-HeadOf.ensures) c.in-len2-up.len_at_least c.own-item.is c.in_ok-new-in-len2-up.ensures c.requires in
    (own.0, subst (λ (x : Cell g.row.E-Value.Denot). held own.0 (value_of q.bottom x)) (sym c.deref-in-len2-up.ensures) own.1, own.2)
