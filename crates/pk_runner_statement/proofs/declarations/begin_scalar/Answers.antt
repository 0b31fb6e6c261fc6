use Rattle.std.proofs.Common.{◌≡◌, ap, ◌∙◌, sym, Option, option_map}
use Rattle.pk_ctypes.specs.declared.types.IntType.{IntType}
use Rattle.pk_typed.specs.declared.values.Value.{Value}
use Rattle.pk_typed.specs.Views.{value_tree}
use Rattle.pk_meaning.specs.Objects.{Object, local}
use Rattle.pk_meaning.specs.Programs.{Program, local_of}
use Rattle.pk_meaning.specs.Work as work
use Rattle.pk_meaning.specs.Work.{Work}
use Rattle.pk_meaning.specs.Steps as steps
use Rattle.pk_meaning.specs.Steps.{Config, on, standing, place}
use Rattle.pk_runner_frame.specs.Frames.{held, work_at, scope_in, place_in, work_in, expression_in}
use Rattle.pk_runner_state.specs.Shown.{program_in, shown, outcome}
use Rattle.pk_runner_statement.specs.Afters.{after_in}
use Rattle.pk_runner_statement.proofs.declarations.begin_scalar.Goals as goal

pub returns-in_ok-put-in-Some : goal.returns-in_ok-put-in-Some
unfolding shown work_in expression_in
returns-in_ok-put-in-Some c = λ s.
    let old : Config = shown s c.args.state.now in
    let d : Config = standing (place_in s c.args.here) old in
    let p : Program = program_in c.args.program.now in
    let x = local_of p c.args.state.now.path c.args.object in
    let w : Work = after_in s (held s c.args.state.now.frames.items) (scope_in s c.args.here.scope) c.args.after in
    let y : Object = local c.args.state.now.path c.args.object in
    let put : work_at (held s c.then.new.frames.items) c.in_ok-put-in-Some.put ≡ work.Put x.int_type y w =
    c.in_ok-put-in-Some.ensures.work s
    ∙ (ap (λ (t : IntType). work.Put t y (work_at (held s c.lay_after.new.frames.items) c.in_ok-number-in-Some.number)) c.local_type.ensures
    ∙ ap (λ (v : Work). work.Put x.int_type y v) (c.in_ok-number-in-Some.ensures s)) in
    c.go_on.ensures s
    ∙ (ap (λ (v : Work). outcome (on d (work.Evaluate (value_tree c.in-Some.value) v) d.values) old) put
    ∙ sym (ap (λ (o : Option Value). outcome (steps.scalar_first p c.args.chosen.now d c.args.object (option_map value_tree o) w) old) c.in-Some.is))
