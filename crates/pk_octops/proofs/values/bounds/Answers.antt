use Rattle.std.proofs.Common.{ap, ◌∙◌}
use Rattle.pk_octmat.specs.Bounds.{halved}
use Rattle.pk_octops.specs.Values.{least_of}
use Rattle.pk_octops.proofs.Sound.{range_sound}
use Rattle.pk_octops.proofs.values.bounds.Goals as goal

pub returns-clause-sound : goal.returns-clause-sound
returns-clause-sound c = λ x p.
    let r = range_sound c.args.m.now c.args.k x p in
    (rw (c.least.ensures ∙ ap least_of c.get.ensures.value) r.0, rw (c.number.ensures ∙ c.halved.ensures ∙ ap halved c.bound.ensures.value) r.1)
