use Rattle.std.proofs.Common.{◌∙◌, ap, sym, true, false, List}
use Rattle.std.proofs.lemmas.List.{drop_all}
use Rattle.pk_meaning.specs.Objects.{is_in_scope}
use Rattle.pk_runner_frame.specs.declared.works.Object as code_object
use Rattle.pk_runner_frame.specs.declared.works.Object.TheVariants as objects
use Rattle.pk_runner_frame.specs.Frames.{object_in}
use Rattle.std.proofs.Common.{map}
use Rattle.pk_runner_visit.proofs.SeenLemmas.{among_next}
use Rattle.pk_runner_visit.proofs.visits.is_among.Goals as goal

pub returns-then-is_same : goal.returns-then-is_same
returns-then-is_same c =
    sym (among_next (object_in c.args.object) c.args.list.now c.loop-place.place (objects.File 0) true c.loop-place-test.true (sym c.is_same.ensures ∙ c.if-is_same.true)) ∙ c.loop-place.invariant

pub loop-place-preserved : goal.loop-place-preserved
loop-place-preserved c =
    sym (among_next (object_in c.args.object) c.args.list.now c.loop-place.place (objects.File 0) false c.loop-place-test.true (sym c.is_same.ensures ∙ c.if-is_same.false)) ∙ c.loop-place.invariant

pub returns : goal.returns
returns c =
    sym (ap (λ (ys : List code_object.Object). is_in_scope (object_in c.args.object) (map object_in ys)) (drop_all c.loop-place.place c.args.list.now c.loop-place-test.false)) ∙ c.loop-place.invariant
