use Rattle.std.proofs.Common.{◌≡◌, ℕ, ap, ◌∙◌, sym, List, Option}
use Rattle.std.specs.Prelude.{pos, replicate}
use Rattle.pk_ctypes.specs.declared.types.IntType.{IntType}
use Rattle.pk_typed.specs.declared.values.Value.{Value}
use Rattle.pk_typed.specs.Trees.{ValueTrees}
use Rattle.pk_typed.specs.Views.{value_trees, optional_values}
use Rattle.pk_graph.specs.Kinds.{count_of}
use Rattle.pk_graph.specs.Steps.{Numbers}
use Rattle.pk_meaning.specs.Objects.{Object, local, Array}
use Rattle.pk_meaning.specs.Programs.{Program, local_of}
use Rattle.pk_meaning.specs.Work as work
use Rattle.pk_meaning.specs.Work.{Work}
use Rattle.pk_meaning.specs.Steps as steps
use Rattle.pk_meaning.specs.Steps.{Config, on, writes, standing, place}
use Rattle.pk_runner_frame.specs.Frames.{held, work_at, scope_in, place_in, work_in}
use Rattle.pk_runner_state.specs.Shown.{program_in, shown, outcome}
use Rattle.pk_runner_statement.specs.Afters.{after_in}
use Rattle.pk_runner_statement.proofs.declarations.begin_array.Goals as goal

pub returns-in_ok-fill-in-Some : goal.returns-in_ok-fill-in-Some
unfolding shown work_in
returns-in_ok-fill-in-Some c = λ s.
    let old : Config = shown s c.args.state.now in
    let d : Config = standing (place_in s c.args.here) old in
    let p : Program = program_in c.args.program.now in
    let x = local_of p c.args.state.now.path c.args.object in
    let w : Work = after_in s (held s c.args.state.now.frames.items) (scope_in s c.args.here.scope) c.args.after in
    let y : Object = local c.args.state.now.path c.args.object in
    let array : IntType → ℕ → Array = λ t n. record { object = y; int_type = t; length = n } in
    let es : ValueTrees = value_trees c.in-Some.list.items in
    let fill : work_at (held s c.then.new.frames.items) c.in_ok-fill-in-Some.fill ≡ work.Fill (array x.int_type (count_of x.length)) 0 es w =
    c.in_ok-fill-in-Some.ensures.work s
    ∙ (ap (λ (t : IntType). work.Fill (array t c.local_count.result) 0 (value_trees c.as_slice.result.now) (work_at (held s c.lay_after.new.frames.items) c.in_ok-number-in-Some.number)) c.local_type.ensures
    ∙ (ap (λ (n : ℕ). work.Fill (array x.int_type n) 0 (value_trees c.as_slice.result.now) (work_at (held s c.lay_after.new.frames.items) c.in_ok-number-in-Some.number)) c.local_count.ensures
    ∙ (ap (λ (vs : List Value). work.Fill (array x.int_type (count_of x.length)) 0 (value_trees vs) (work_at (held s c.lay_after.new.frames.items) c.in_ok-number-in-Some.number)) c.as_slice.ensures.value
    ∙ ap (λ (v : Work). work.Fill (array x.int_type (count_of x.length)) 0 es v) (c.in_ok-number-in-Some.ensures s)))) in
    c.write_all.ensures s
    ∙ (ap (λ (v : Work). outcome (writes d y c.in_ok-cleared-in-Some.cleared.items v d.values) old) fill
    ∙ (ap (λ (zs : Numbers). outcome (writes d y zs (work.Fill (array x.int_type (count_of x.length)) 0 es w) d.values) old) (c.in_ok-cleared-in-Some.ensures ∙ ap (λ (n : ℕ). replicate n (pos 0)) c.local_count.ensures)
    ∙ sym (ap (λ (o : Option _). outcome (steps.array_first p c.args.chosen.now d c.args.object (optional_values o) w) old) c.in-Some.is)))
