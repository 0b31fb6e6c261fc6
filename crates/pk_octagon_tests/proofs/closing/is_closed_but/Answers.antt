use Rattle.std.specs.Prelude.{◌≡◌, Some}
use Rattle.std.proofs.Common.{◌∙◌, ap, subst, sym}
use Rattle.pk_octmat.specs.Octagon.{HasEntries, Octagon, entry, forgotten}
use Rattle.pk_octmat.specs.Shapes.{left_of}
use Rattle.pk_octmat.proofs.Tabled.{octagon_is}
use Rattle.pk_octclose.specs.Places.{closing_of}
use Rattle.pk_octagon_tests.proofs.closing.is_closed_but.Goals as goal

pub returns-in-Kept : goal.returns-in-Kept
returns-in-Kept c = λ e.
    let r = c.forget.new.self in
    let entries : HasEntries c.args.m.now.vars (forgotten (entry c.args.m.now) c.args.k) r = record {
      vars = c.forget.ensures.vars ∙ ap (λ (o : Octagon). o.vars) c.in_ok-rest.ensures;
      each = λ i j id jd. c.forget.ensures.value i j ∙ ap (λ (o : Octagon). forgotten (entry o) c.args.k i j) c.in_ok-rest.ensures;
    } in
    let is = octagon_is c.args.m.now.vars (forgotten (entry c.args.m.now) c.args.k) r c.is_octagon-2.ensures entries in
    let same = c.equals.ensures.0 e in
    let kept = subst (λ s. left_of s c.close.new.m ≡ closing_of c.in_ok-closed.closed) c.in-Kept.is c.close.ensures.value in
    let own : closing_of r ≡ Some r = sym (kept ∙ ap closing_of c.in_ok-closed.ensures) ∙ ap (λ (o : Octagon). Some o) same in
    subst (λ (o : Octagon). closing_of o ≡ Some o) is own
