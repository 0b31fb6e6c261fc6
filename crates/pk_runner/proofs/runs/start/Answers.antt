use Rattle.std.proofs.Common.{◌≡◌, ◌∙◌, ap, sym, Bool, List, Some, None, Option}
use Rattle.std.specs.Prelude.{if◌then◌else◌, option_map, reverse}
use Rattle.pk_ctypes.specs.declared.types.IntType.{IntType}
use Rattle.pk_typed.specs.Trees.{ItemTrees}
use Rattle.pk_typed.specs.Views.{item_trees}
use Rattle.pk_graph.specs.Steps.{Numbers}
use Rattle.pk_meaning.specs.Objects.{Objects, Scope}
use Rattle.pk_meaning.specs.Programs.{Program, block_of, function_of, body_scope, first_objects}
use Rattle.pk_meaning.specs.Runs.{with_arguments, begins}
use Rattle.pk_meaning.specs.Work as work
use Rattle.pk_meaning.specs.Work.{Ahead}
use Rattle.pk_meaning.specs.Steps.{Config, body_work}
use Rattle.pk_runner_frame.specs.Frames.{Held, held, ahead_at, ahead_in, work_in, scope_in}
use Rattle.pk_runner_state.specs.Shown.{program_in, objects_in, shown}
use Rattle.pk_runner.proofs.ArgumentLemmas.{begun}
use Rattle.pk_runner.proofs.runs.start.Goals as goal

pub returns-then-branch : goal.returns-then-branch
unfolding shown work_in ahead_in
returns-then-branch c = λ s agrees.
    let p : Program = program_in c.args.program.now in
    let ch : Numbers = c.args.chosen.now in
    let o : Objects = objects_in c.set_arguments.new.objects in
    let under : List Held = held s c.before-then-branch.new.frames.items in
    let scope : scope_in s c.in_ok-scope.scope ≡ body_scope p 0 = c.in_ok-scope.ensures.scope s agrees in
    let set : with_arguments 0 (function_of p 0).parameters ch (first_objects p) ≡ Some o =
    ap (λ (ts : List IntType). with_arguments 0 ts ch (first_objects p)) (sym c.parameters.ensures)
    ∙ (ap (λ (x : Objects). with_arguments 0 c.parameters.result.now ch x) (sym c.in_ok-objects.ensures)
    ∙ (c.in_ok-set_arguments.ensures ∙ ap (λ (b : Bool). if b then Some o else None) c.if-branch.true)) in
    let body : work.Go (ahead_at (held s c.before-then-branch-2.new.frames.items) c.in_ok-rest.rest) ≡ body_work p 0 work.Nobody =
    ap work.Go (c.in_ok-rest.ensures.ahead s
    ∙ (ap (λ (xs : Scope). work.Rest xs (item_trees c.items.result.now) (ahead_at under c.in_ok-end.end)) scope
    ∙ (ap (λ (is : ItemTrees). work.Rest (body_scope p 0) is (ahead_at under c.in_ok-end.end)) c.items.ensures
    ∙ ap (λ (a : Ahead). work.Rest (body_scope p 0) (block_of p 0).items a) (c.in_ok-end.ensures.ahead s)))) in
    ap (λ (d : Config). Some d) (begun p c.opened.result (scope_in s c.in_ok-scope.scope) _ _ o c.opened.ensures scope body (ap reverse c.new-then-branch.ensures.items))
    ∙ sym (ap (λ (x : Option Objects). option_map (begins p) x) set)
