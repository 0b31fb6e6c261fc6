use Rattle.std.proofs.Common.{◌≡◌, ℕ, ◌∙◌, ap}
use Rattle.pk_typed.specs.Trees.{ItemTrees}
use Rattle.pk_meaning.specs.Objects.{Scope}
use Rattle.pk_meaning.specs.Programs.{body_scope, block_of}
use Rattle.pk_meaning.specs.Work.{Way, Lost, Ahead, End, Caller}
use Rattle.pk_meaning.specs.Steps as steps
use Rattle.pk_meaning.specs.Steps.{takes, caller_of}
use Rattle.pk_typed.specs.Views.{item_trees}
use Rattle.pk_runner_frame.specs.Frames.{held, ahead_at, ahead_in, scope_in}
use Rattle.pk_runner_state.specs.Shown.{shown, outcome, program_in}
use Rattle.pk_runner_jump.proofs.JumpLemmas.{moved}
use Rattle.pk_runner_jump.proofs.jumps.go_to.Goals as goal

pub returns-clause-told : goal.returns-clause-told
unfolding shown ahead_in
returns-clause-told c = λ s a.
    let d = shown s c.args.state.now in
    let p = program_in c.args.program.now in
    let k : ℕ = c.args.state.now.path in
    let caller : Caller = caller_of (ahead_at (held s c.args.state.now.frames.items) c.args.ahead) in
    let outside : Ahead = ahead_at (held s c.before-2.new.frames.items) c.in_ok-end.end in
    let last : outside ≡ End caller = c.in_ok-end.ensures.ahead s ∙ ap End (c.take_caller-caller.ensures s) in
    let names : scope_in s c.in_ok-scope.scope ≡ body_scope p k = c.in_ok-scope.ensures.scope s (c.find_in.ensures.before s a) in
    c.jump.ensures s
    ∙ (moved s (held s c.find_in.new.frames.items) c.in_ok-found.found d _ _ d.values
    ∙ ap (λ (w : Way). outcome (takes d w d.values) d)
    (c.in_ok-found.ensures.found s a Lost
    ∙ (ap (λ (xs : Scope). steps.found_in p k (steps.labelled c.args.label) xs (item_trees c.items.result.now) outside Lost) names
    ∙ (ap (λ (is : ItemTrees). steps.found_in p k (steps.labelled c.args.label) (body_scope p k) is outside Lost) c.items.ensures
    ∙ ap (λ (x : Ahead). steps.found_in p k (steps.labelled c.args.label) (body_scope p k) (block_of p k).items x Lost) last))))
