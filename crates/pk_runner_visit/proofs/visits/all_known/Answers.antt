use Rattle.std.proofs.Common.{◌≡◌, ◌∙◌, ap, sym, map, get_or, List, ℕ}
use Rattle.std.proofs.lemmas.List.{get_or_default}
use Rattle.std.specs.Prelude.{ℤ}
use Rattle.pk_meaning.specs.Objects.{Objects}
use Rattle.pk_meaning.specs.Programs.{Program}
use Rattle.pk_meaning.specs.Runs as definition
use Rattle.pk_meaning.specs.Runs.{known_of}
use Rattle.pk_runner_frame.specs.declared.works.Object as code_object
use Rattle.pk_runner_frame.specs.declared.works.Object.TheVariants as objects
use Rattle.pk_runner_frame.specs.Frames.{object_in}
use Rattle.pk_runner_state.specs.Shown.{program_in, objects_in}
use Rattle.pk_runner_state.proofs.ProgramLemmas.{made_next, made_end, map_twice}
use Rattle.pk_runner_visit.specs.Seen.{known_in}
use Rattle.pk_runner_visit.proofs.visits.all_known.Goals as goal

pub loop-place-preserved : goal.loop-place-preserved
loop-place-preserved c =
    let p : Program = program_in c.args.program.now in
    let o : Objects = objects_in c.args.objects.now in
    let x : code_object.Object = get_or c.args.list.now c.loop-place.place (objects.File 0) in
    let same : definition.Known = known_of p o (object_in x) in
    let is : known_in (record { name = c.name_of.result; numbers = c.in_ok-numbers.numbers }) ≡ same =
    ap (λ (name : List ℕ). record same { name = name; numbers = c.in_ok-numbers.numbers.items }) c.name_of.ensures
    ∙ ap (λ (zs : List ℤ). record same { numbers = zs }) (c.in_ok-numbers.ensures.items ∙ c.numbers.ensures) in
    made_next known_in (λ (y : code_object.Object). known_of p o (object_in y)) c.loop-place.known.items c.push.new.self.items c.args.list.now c.loop-place.place
    (record { name = c.name_of.result; numbers = c.in_ok-numbers.numbers }) x c.loop-place-test.true c.in_ok-push.ensures.items
    (sym (get_or_default c.args.list.now c.loop-place.place x (objects.File 0) c.loop-place-test.true)) is c.loop-place.invariant

pub returns : goal.returns
returns c =
    made_end known_in (λ (x : code_object.Object). known_of (program_in c.args.program.now) (objects_in c.args.objects.now) (object_in x)) c.loop-place.known.items c.args.list.now c.loop-place.place c.loop-place-test.false c.loop-place.invariant
    ∙ map_twice (known_of (program_in c.args.program.now) (objects_in c.args.objects.now)) object_in c.args.list.now
