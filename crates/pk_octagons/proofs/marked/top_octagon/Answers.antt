use Rattle.pk_octmat.specs.Octagon.{top_bound}
use Rattle.pk_octmat.proofs.Tabled.{octagon_is}
use Rattle.pk_octagons.proofs.marked.top_octagon.Goals as goal

pub returns : goal.returns
returns c = octagon_is c.args.n top_bound c.in_ok-m.m c.is_octagon.ensures c.in_ok-m.ensures
