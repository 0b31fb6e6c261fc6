use Rattle.std.proofs.Common.{subst, sym}
use Rattle.pk_phases.specs.declared.phases.Phase.TheVariants.{Down}
use Rattle.pk_phases.proofs.phased.decide_by.Goals as goal

pub same-settled-requires : goal.same-settled-requires
same-settled-requires g c =
    let keeps = g.E.Equate.keeps c.args.equations.now in
    (c.requires.0, subst (g.E.Equate.held c.args.equations.now c.requires.0) (sym c.in_ok-narrowed.ensures) (keeps.next c.requires.0 (Down 1) c.args.old.now c.args.new.now c.requires.1 c.requires.2), c.requires.1)
