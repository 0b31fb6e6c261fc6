use Rattle.pk_octmat.proofs.Tabled.{octagon_is}
use Rattle.pk_octops.proofs.Sound.{join_sound}
use Rattle.pk_octops.proofs.tables.join.Goals as goal

pub returns-clause-sound : goal.returns-clause-sound
returns-clause-sound c = join_sound c.args.a.now.vars c.args.a.now c.args.b.now c.in_ok-m.m c.in_ok-m.ensures

pub returns-clause-is : goal.returns-clause-is
returns-clause-is c = octagon_is c.args.a.now.vars _ c.in_ok-m.m c.is_octagon.ensures c.in_ok-m.ensures
