use Rattle.pk_cert_states.proofs.Filling.{bounds_are, octagon_told}
use Rattle.pk_cert_states.proofs.bounds.octagon.Goals as goal

pub returns-then-not-are_bounds : goal.returns-then-not-are_bounds
returns-then-not-are_bounds c = λ m h. let is = c.are_bounds.ensures.1 (bounds_are c.args.n c.args.symbols.now m h) in absurd (cc)

pub returns : goal.returns
returns c = octagon_told c.args.n c.args.symbols.now c.in_ok-m.m c.requires.size (c.are_bounds.ensures.0 (cc)) c.is_octagon.ensures c.in_ok-m.ensures
