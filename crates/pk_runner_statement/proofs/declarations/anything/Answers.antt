use Rattle.std.proofs.Common.{ℕ, ap, ◌∙◌, sym, Bool}
use Rattle.std.specs.Prelude.{if◌then◌else◌}
use Rattle.pk_ctypes.specs.declared.types.IntType.{IntType}
use Rattle.pk_graph.specs.Kinds.{count_of}
use Rattle.pk_graph.specs.Steps.{Numbers, are_any}
use Rattle.pk_meaning.specs.Objects.{Object, local}
use Rattle.pk_meaning.specs.Programs.{local_of}
use Rattle.pk_meaning.specs.Work.{Work}
use Rattle.pk_meaning.specs.Steps as steps
use Rattle.pk_meaning.specs.Steps.{Config, on, writes, standing, place}
use Rattle.pk_runner_frame.specs.Frames.{held, work_at, scope_in, place_in}
use Rattle.pk_runner_state.specs.Shown.{program_in, shown, outcome}
use Rattle.pk_runner_statement.specs.Afters.{after_in}
use Rattle.pk_runner_statement.proofs.declarations.anything.Goals as goal

pub returns-in_ok-number : goal.returns-in_ok-number
unfolding shown
returns-in_ok-number c = λ s.
    let old : Config = shown s c.args.state.now in
    let d : Config = standing (place_in s c.args.here) old in
    let x = local_of (program_in c.args.program.now) c.args.state.now.path c.args.object in
    let w : Work = after_in s (held s c.args.state.now.frames.items) (scope_in s c.args.here.scope) c.args.after in
    let ch : Numbers = c.args.chosen.now in
    let y : Object = local c.args.state.now.path c.args.object in
    c.write_all.ensures s
    ∙ (ap (λ (zs : Numbers). outcome (writes d y zs (work_at (held s c.lay_after.new.frames.items) c.in_ok-number.number) d.values) old) c.in_ok-numbers.ensures.items
    ∙ (ap (λ (v : Work). outcome (writes d y ch v d.values) old) (c.in_ok-number.ensures s)
    ∙ sym (ap (λ (b : Bool). outcome (if b then writes d y ch w d.values else steps.Wants x.int_type (count_of x.length)) old) (sym (c.are_chosen.ensures
    ∙ (ap (λ (t : IntType). are_any t c.local_count-count.result ch) c.local_type-int_type.ensures ∙ ap (λ (n : ℕ). are_any x.int_type n ch) c.local_count-count.ensures))
    ∙ c.if-are_chosen.true))))

pub returns-else-are_chosen : goal.returns-else-are_chosen
unfolding shown
returns-else-are_chosen c = λ s.
    let old : Config = shown s c.args.state.now in
    let d : Config = standing (place_in s c.args.here) old in
    let x = local_of (program_in c.args.program.now) c.args.state.now.path c.args.object in
    let w : Work = after_in s (held s c.args.state.now.frames.items) (scope_in s c.args.here.scope) c.args.after in
    let ch : Numbers = c.args.chosen.now in
    let y : Object = local c.args.state.now.path c.args.object in
    ap (λ (t : IntType). outcome (steps.Wants t c.local_count-count.result) old) c.local_type-int_type.ensures
    ∙ (ap (λ (n : ℕ). outcome (steps.Wants x.int_type n) old) c.local_count-count.ensures
    ∙ sym (ap (λ (b : Bool). outcome (if b then writes d y ch w d.values else steps.Wants x.int_type (count_of x.length)) old) (sym (c.are_chosen.ensures
    ∙ (ap (λ (t : IntType). are_any t c.local_count-count.result ch) c.local_type-int_type.ensures ∙ ap (λ (n : ℕ). are_any x.int_type n ch) c.local_count-count.ensures))
    ∙ c.if-are_chosen.false)))
