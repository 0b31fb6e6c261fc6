use Rattle.std.proofs.Common.{ℕ, ap, ◌∙◌, List}
use Rattle.pk_ctypes.specs.declared.places.Pos.{Pos}
use Rattle.pk_meaning.specs.Objects.{Scope}
use Rattle.pk_meaning.specs.Programs.{Program, body_scope}
use Rattle.pk_meaning.specs.Work as work
use Rattle.pk_meaning.specs.Work.{Work}
use Rattle.pk_meaning.specs.Steps.{Config, comes, place}
use Rattle.pk_runner_frame.specs.Frames.{Held, held, caller_in, work_in}
use Rattle.pk_runner_state.specs.Shown.{program_in, shown, outcome}
use Rattle.pk_runner_statement.proofs.steps.leave.Goals as goal

pub returns-clause-told : goal.returns-clause-told
unfolding shown work_in
returns-clause-told c = λ s agrees.
    let old : Config = shown s c.args.state.now in
    let hs : List Held = held s c.args.state.now.frames.items in
    let p : Program = program_in c.args.program.now in
    let k : ℕ = c.args.state.now.path in
    let w : Work = work.Return (caller_in s hs c.args.caller) in
    c.come.ensures s
    ∙ (ap (λ (xs : Scope). outcome (comes old (place c.opened.result xs) w old.values) old) (c.in_ok-scope.ensures.scope s agrees)
    ∙ ap (λ (at : Pos). outcome (comes old (place at (body_scope p k)) w old.values) old) c.opened.ensures)
