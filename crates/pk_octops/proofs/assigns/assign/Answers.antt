use Rattle.std.proofs.Common.{subst}
use Rattle.std.specs.Int.{w128}
use Rattle.std.proofs.lemmas.Int.{to_z-of_z}
use Rattle.pk_octmat.specs.Octagon.{HasEntries, entry}
use Rattle.pk_octmat.proofs.Tabled.{octagon_is}
use Rattle.pk_octops.specs.Assigns.{assigned}
use Rattle.pk_octops.proofs.Along.{assign_sound}
use Rattle.pk_octops.proofs.assigns.assign.Goals as goal
use Rattle.pk_octops.proofs.assigns.assign.Goals.{After-is_octagon}

value : (c : After-is_octagon) → HasEntries c.args.m.now.vars (assigned (entry c.args.m.now) c.args.k c.args.term c.args.c) c.in_ok-r.r
value c = subst (λ z. HasEntries c.args.m.now.vars (assigned (entry c.args.m.now) c.args.k c.args.term z) c.in_ok-r.r) (to_z-of_z w128 c.args.c c.ranges.c) c.in_ok-r.ensures

pub returns-clause-sound : goal.returns-clause-sound
returns-clause-sound c = assign_sound c.args.m.now.vars c.args.k c.args.term c.args.c c.args.m.now c.in_ok-r.r (value c)

pub returns-clause-is : goal.returns-clause-is
returns-clause-is c = octagon_is c.args.m.now.vars (assigned (entry c.args.m.now) c.args.k c.args.term c.args.c) c.in_ok-r.r c.is_octagon.ensures (value c)
