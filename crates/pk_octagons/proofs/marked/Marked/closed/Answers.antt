use Rattle.std.proofs.Common.{ap, sym, ◌∙◌, subst, Some}
use Rattle.std.specs.Prelude.{option_map}
use Rattle.std.specs.Arc.{arc_value}
use Rattle.pk_octmat.specs.Octagon.{Octagon, IsOctagon}
use Rattle.pk_octagons.proofs.Closings.{reduced_closed}
use Rattle.pk_octagons.proofs.Resting.{resting_closed}
use Rattle.pk_octagons.proofs.marked.Marked.closed.Goals as goal

pub returns-then-rests : goal.returns-then-rests
returns-then-rests c =
    ap (λ (o : Octagon). Some o) c.in_ok-copy.ensures
    ∙ resting_closed c.args.pack.now c.args.values.now c.args.self.now (subst IsOctagon c.self.view_is (rw c.deref.ensures at c.is_octagon.ensures)) (c.rests.ensures c.if-rests.true)

pub invariant_of-result : goal.invariant_of-result
invariant_of-result c =
    reduced_closed c.args.pack.now c.args.values.now (arc_value c.self.inside.octagon) (arc_value c.in-Some.octagon) (ap (λ (o : Octagon). o.vars) c.self.view_is ∙ c.requires.vars) (rw c.deref.ensures at c.is_octagon.ensures)
    (sym c.in_ok-close_lowered.ensures ∙ ap (λ o. option_map arc_value o) c.in-Some.is)
