use Rattle.std.proofs.Common.{ap, subst, ◌∙◌, Some}
use Rattle.std.specs.Prelude.{neg_ℤ}
use Rattle.std.specs.Int.{w128}
use Rattle.std.specs.Int.RustNames.{FitsSigned}
use Rattle.std.specs.Option.{SomeIff}
use Rattle.std.proofs.lemmas.Int.{to_z-of_z}
use Rattle.pk_octmat.specs.Bounds.{capped}
use Rattle.pk_octmat.specs.Octagon.{Octagon, entry, forgotten}
use Rattle.pk_octops.proofs.Along.{bound_is, negated_cap}
use Rattle.pk_octops.proofs.assigns.bind_to.Goals as goal

pub returns : goal.returns
returns c = record {
  value = record {
    vars = c.set-2.ensures.vars ∙ c.set.ensures.vars ∙ c.forget.ensures.vars ∙ ap (λ (o : Octagon). o.vars) c.in_ok-r.ensures;
    each = λ i j id jd.
        bound_is (entry c.args.m.now) (entry c.forget.new.self) (entry c.set.new.self) (entry c.set-2.new.self) c.args.k c.args.t c.args.c _ _ i j
        (ap (λ z. capped (Some z)) (to_z-of_z w128 c.args.c c.ranges.c))
        (negated_cap c.checked_neg.result c.args.c c.ranges.c (subst (λ z. SomeIff c.checked_neg.result (FitsSigned w128 (neg_ℤ z)) (neg_ℤ z)) (to_z-of_z w128 c.args.c c.ranges.c) c.checked_neg.ensures))
        (c.forget.ensures.value i j ∙ ap (λ (o : Octagon). forgotten (entry o) c.args.k i j) c.in_ok-r.ensures)
        (c.set.ensures.value i j) (c.set-2.ensures.value i j);
  };
}
