use Rattle.std.proofs.Common.{ap, sym, ◌∙◌, List}
use Rattle.pk_typed.specs.declared.statements.Declared.{Declared}
use Rattle.pk_typed.specs.declared.statements.ForStart.{ForStart}
use Rattle.pk_typed.specs.Views.{declared_trees, for_start_tree}
use Rattle.pk_meaning.specs.Programs.{with_all_declared}
use Rattle.pk_meaning.specs.Steps.{for_scope}
use Rattle.pk_runner_frame.specs.Frames.{scope_in}
use Rattle.pk_runner_frame.proofs.FrameLemmas.{if_map}
use Rattle.pk_runner_state.specs.Shown.{program_in}
use Rattle.pk_runner_jump.proofs.jumps.for_scope.Goals as goal

pub returns-in-Declared-clause-scope : goal.returns-in-Declared-clause-scope
unfolding for_start_tree
returns-in-Declared-clause-scope c = λ s a. if_map c.with_all_declared.result _ _ (λ x e. e
    ∙ (ap (λ (ds : List Declared). with_all_declared (program_in c.args.program.now) c.args.path (declared_trees ds) (scope_in s c.args.scope)) c.as_slice.ensures.value
    ∙ sym (ap (λ (f : ForStart). for_scope (program_in c.args.program.now) c.args.path (for_start_tree f) (scope_in s c.args.scope)) c.in-Declared.is))) (c.with_all_declared.ensures.scope s a)

pub returns-in-Effect-clause-scope : goal.returns-in-Effect-clause-scope
unfolding for_start_tree
returns-in-Effect-clause-scope c = λ s a. sym (ap (λ (f : ForStart). for_scope (program_in c.args.program.now) c.args.path (for_start_tree f) (scope_in s c.args.scope)) c.in-Effect.is)
