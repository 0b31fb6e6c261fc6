use Rattle.std.proofs.Common.{ap, ◌∙◌, sym, List, Option, Some, None, option_map}
use Rattle.pk_ctypes.specs.declared.types.IntType.{IntType}
use Rattle.pk_typed.specs.declared.values.Value.{Value}
use Rattle.pk_typed.specs.Trees.{ValueTree}
use Rattle.pk_typed.specs.Views.{value_tree}
use Rattle.pk_meaning.specs.Objects.{result}
use Rattle.pk_meaning.specs.Programs.{function_of}
use Rattle.pk_meaning.specs.Work as work
use Rattle.pk_meaning.specs.Work.{Work, Ahead, Caller, Place}
use Rattle.pk_meaning.specs.Steps as steps
use Rattle.pk_meaning.specs.Steps.{Config, Next, on, standing, place}
use Rattle.pk_runner_frame.specs.Frames.{Held, held, ahead_at, work_in, expression_in}
use Rattle.pk_runner_state.specs.Shown.{program_in, shown, outcome}
use Rattle.pk_runner_statement.proofs.StatementLemmas.{returns_none}
use Rattle.pk_runner_statement.proofs.steps.return_value.Goals as goal

pub returns-in-None : goal.returns-in-None
unfolding shown work_in
returns-in-None c = λ s.
    let old : Config = shown s c.args.state.now in
    let hs : List Held = held s c.args.state.now.frames.items in
    let h : Place = place c.args.at old.here.scope in
    let d : Config = standing h old in
    let a : Ahead = ahead_at hs c.args.ahead in
    let o : Option ValueTree = option_map value_tree c.args.value.now in
    let k : Caller = steps.caller_of a in
    c.go_on.ensures s
    ∙ (ap (λ (k : Caller). outcome (on d (work.Leave k) d.values) old) (c.take_caller-caller.ensures s)
    ∙ (sym (ap (λ (n : Next). outcome n old) (returns_none d o k))
    ∙ ap (λ (t : Option IntType). outcome (steps.returns d t o k) old) (sym c.in-None.is ∙ c.returns.ensures)))

pub returns-in-None-value : goal.returns-in-None-value
unfolding shown work_in
returns-in-None-value c = λ s.
    let old : Config = shown s c.args.state.now in
    let hs : List Held = held s c.args.state.now.frames.items in
    let h : Place = place c.args.at old.here.scope in
    let d : Config = standing h old in
    let a : Ahead = ahead_at hs c.args.ahead in
    let k : Caller = steps.caller_of a in
    let r : Option IntType = (function_of (program_in c.args.program.now) c.args.state.now.path).returns in
    c.go_on-in-None-value.ensures s
    ∙ (ap (λ (k : Caller). outcome (on d (work.Leave k) d.values) old) (c.take_caller-caller.ensures s)
    ∙ (ap (λ (t : Option IntType). outcome (steps.returns d t None k) old) (sym c.in-Some.is ∙ c.returns.ensures)
    ∙ sym (ap (λ (v : Option Value). outcome (steps.returns d r (option_map value_tree v) k) old) c.in-None-value.is)))

pub returns-in_ok-put-in-Some-value : goal.returns-in_ok-put-in-Some-value
unfolding shown work_in expression_in
returns-in_ok-put-in-Some-value c = λ s.
    let old : Config = shown s c.args.state.now in
    let hs : List Held = held s c.args.state.now.frames.items in
    let h : Place = place c.args.at old.here.scope in
    let d : Config = standing h old in
    let a : Ahead = ahead_at hs c.args.ahead in
    let k : Caller = steps.caller_of a in
    let r : Option IntType = (function_of (program_in c.args.program.now) c.args.state.now.path).returns in
    let v : ValueTree = value_tree c.in-Some-value.value in
    c.go_on-in-Some-value.ensures s
    ∙ (ap (λ (x : Work). outcome (on d (work.Evaluate v x) d.values) old)
    (c.in_ok-put-in-Some-value.ensures.work s ∙ ap (work.Put c.in-Some.int_type (result c.args.state.now.path)) (c.in_ok-leave-in-Some-value.ensures.work s ∙ ap work.Leave (c.take_caller-caller.ensures s)))
    ∙ (ap (λ (t : Option IntType). outcome (steps.returns d t (Some v) k) old) (sym c.in-Some.is ∙ c.returns.ensures)
    ∙ sym (ap (λ (o : Option Value). outcome (steps.returns d r (option_map value_tree o) k) old) c.in-Some-value.is)))
