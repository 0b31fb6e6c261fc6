use Rattle.pk_octmat.proofs.Tabled.{octagon_is}
use Rattle.pk_octops.proofs.Sound.{widen_sound}
use Rattle.pk_octops.proofs.tables.widen.Goals as goal

pub returns-clause-sound : goal.returns-clause-sound
returns-clause-sound c = widen_sound c.args.h.now.vars c.args.h.now c.args.n.now c.in_ok-m.m c.in_ok-m.ensures

pub returns-clause-is : goal.returns-clause-is
returns-clause-is c = octagon_is c.args.h.now.vars _ c.in_ok-m.m c.is_octagon.ensures c.in_ok-m.ensures
