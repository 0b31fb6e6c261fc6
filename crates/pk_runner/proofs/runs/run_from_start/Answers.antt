use Rattle.std.proofs.Common.{◌≡◌, ◌∙◌, ap, sym, map, List, Some, Bor}
use Rattle.pk_graph.specs.Steps.{Numbers}
use Rattle.pk_meaning.specs.Programs.{Program}
use Rattle.pk_meaning.specs.Runs as meaning
use Rattle.pk_meaning.specs.Steps.{Config}
use Rattle.pk_runner_frame.specs.Frames.{Reading}
use Rattle.pk_runner_state.specs.Rows.{reading_of}
use Rattle.pk_runner_state.specs.Shown.{program_in, Outcome}
use Rattle.pk_runner.specs.Ran.{rows_of, config_in, ran}
use Rattle.pk_runner.proofs.RunLemmas.{answer_is, not_begun, begun_so}
use Rattle.pk_runner.proofs.runs.run_from_start.Goals as goal

pub returns-in-None : goal.returns-in-None
returns-in-None c =
    let p : Program = program_in c.args.program.now in
    let chs : List Numbers = map (λ (zs : Bor Numbers). zs.now) c.args.choices.now in
    not_begun c.in_ok-start.field-0 (meaning.start p c.args.chosen.now) (λ (d : Config). (ran p c.args.steps chs d).answer) c.in_ok-start.ensures c.in-None.is

pub returns-in_ok-answer-in-Some : goal.returns-in_ok-answer-in-Some
returns-in_ok-answer-in-Some c =
    let p : Program = program_in c.args.program.now in
    let chs : List Numbers = map (λ (zs : Bor Numbers). zs.now) c.args.choices.now in
    let s : Reading = reading_of (rows_of c.run.new.config) in
    let is : c.in_ok-answer-in-Some.answer ≡ (ran p c.args.steps chs (config_in s c.in-Some.begun)).answer =
    sym (answer_is c.in_ok-answer-in-Some.answer (config_in s c.run.new.config)) ∙ ap (λ (o : Outcome). o.answer) (c.in_ok-answer-in-Some.ensures.told s c.is_readable.ensures) in
    ap Some is
    ∙ begun_so c.in_ok-start.field-0 (meaning.start p c.args.chosen.now) (λ (d : Config). (ran p c.args.steps chs d).answer) c.in-Some.begun s c.in_ok-start.ensures c.in-Some.is
    (c.in_ok-answer-in-Some.ensures.before s c.is_readable.ensures)
