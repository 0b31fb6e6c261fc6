use Rattle.std.proofs.Common.{◌≡◌, ◌<◌, ◌∙◌, ℕ, subst, length}
use Rattle.std.specs.Arc.{arc_value}
use Rattle.pk_octmat.specs.Octagon.{Octagon}
use Rattle.pk_octmarks.specs.Marks.{IsMarked}
use Rattle.pk_octmarks.specs.declared.mark.Mark.TheVariants.{Closed}
use Rattle.pk_octagons.specs.Packs.{chosen_at}
use Rattle.pk_octagons.specs.Values.{known_at}
use Rattle.pk_octagons.specs.Reduced.{by_range}
use Rattle.pk_octagons.proofs.marked.Marked.rests.Goals as goal

pub returns-then-is_closed : goal.returns-then-is_closed
returns-then-is_closed c = λ yes.
    let vs = c.args.values.now in
    let l = c.args.pack.now in
    record {
      closed = subst (IsMarked Closed) c.self.view_is (subst (λ k. IsMarked k (arc_value c.self.inside.octagon)) (c.is_closed.ensures.0 c.if-is_closed.true) c.self.invariant);
      lowered = subst (λ (o : Octagon). (k : ℕ) → k < length l → by_range o k (known_at vs (chosen_at l k)).range ≡ o) (c.deref.ensures ∙ c.self.view_is) (c.are_lowered.ensures yes);
    }
