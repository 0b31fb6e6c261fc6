use Rattle.std.proofs.Common.{ap, ◌∙◌, sym, List, Option}
use Rattle.std.specs.Prelude.{ℤ}
use Rattle.pk_meaning.specs.Programs.{Program}
use Rattle.pk_meaning.specs.Work.{Work}
use Rattle.pk_meaning.specs.Steps as steps
use Rattle.pk_meaning.specs.Steps.{Config, on, place}
use Rattle.pk_runner_frame.specs.declared.works.Caller as code_caller
use Rattle.pk_runner_frame.specs.Frames.{Held, held, place_in, caller_in}
use Rattle.pk_runner_state.specs.Shown.{program_in, shown, outcome}
use Rattle.pk_runner_statement.proofs.steps.go_back.Goals as goal

pub returns-in-Nobody : goal.returns-in-Nobody
unfolding shown
returns-in-Nobody c = λ s.
    let old : Config = shown s c.args.state.now in
    let hs : List Held = held s c.args.state.now.frames.items in
    let p : Program = program_in c.args.program.now in
    ap (λ (o : Option ℤ). outcome (steps.Returned o) old) (c.result_of.ensures s)
    ∙ sym (ap (λ (k : code_caller.Caller). outcome (steps.returned p old (caller_in s hs k)) old) c.in-Nobody.is)

pub returns-in-Path : goal.returns-in-Path
unfolding shown
returns-in-Path c = λ s.
    let old : Config = shown s c.args.state.now in
    let hs : List Held = held s c.args.state.now.frames.items in
    let p : Program = program_in c.args.program.now in
    let d : Config = record old { path = c.in-Path.path; here = place_in s c.in-Path.here } in
    c.go_on.ensures s
    ∙ (ap (λ (v : Work). outcome (on d v d.values) old) (c.take-work.ensures s)
    ∙ sym (ap (λ (k : code_caller.Caller). outcome (steps.returned p old (caller_in s hs k)) old) c.in-Path.is))
