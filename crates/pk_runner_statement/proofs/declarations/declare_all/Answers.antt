use Rattle.std.proofs.Common.{sym, subst, arith, List, IfOk}
use Rattle.pk_typed.specs.declared.statements.Declared.{Declared}
use Rattle.pk_typed.specs.Views.{declared_trees}
use Rattle.pk_meaning.specs.Programs.{Program}
use Rattle.pk_meaning.specs.Steps as steps
use Rattle.pk_meaning.specs.Steps.{on}
use Rattle.pk_runner_frame.specs.Frames.{Held, held, work_at}
use Rattle.pk_runner_state.specs.Shown.{program_in, shown, Told}
use Rattle.pk_runner_statement.proofs.StatementLemmas.{at_front}
use Rattle.pk_runner_statement.proofs.declarations.declare_all.Goals as goal

pub returns-else-objects-eq0-clause-told : goal.returns-else-objects-eq0-clause-told
unfolding shown
returns-else-objects-eq0-clause-told c = λ s agrees.
    let p : Program = program_in c.args.program.now in
    let hs : List Held = held s c.args.state.now.frames.items in
    subst (λ (ds : List Declared). IfOk c.declare.result (λ r. Told s c.args.state.now c.declare.new.state r (steps.all_declared p c.args.chosen.now (shown s c.args.state.now)
    (declared_trees ds) (work_at hs c.args.number))))
    (sym (at_front c.args.objects.now c.index-objects-0.result (omega (arith, c.if-objects-eq0.false)) c.index-objects-0.is))
    (c.declare.ensures.told s c.args.state.now.here.at agrees)
