use Rattle.std.proofs.Common.{◌≡◌, ◌<◌, ◌∙◌, ap, sym, subst, map, length, ℕ, List, [], Bor}
use Rattle.std.proofs.lemmas.List.{length-map}
use Rattle.pk_graph.specs.Steps.{Numbers}
use Rattle.pk_meaning.specs.Programs.{Program}
use Rattle.pk_meaning.specs.Steps.{Config, Next, step}
use Rattle.pk_runner_state.specs.declared.states.Answer.{Answer}
use Rattle.pk_runner_state.specs.declared.states.Answer.TheVariants as answers
use Rattle.pk_runner_state.specs.Shown.{program_in, told, outcome}
use Rattle.pk_runner.specs.Ran.{config_in}
use Rattle.pk_runner.proofs.RunLemmas.{waits, with_next}
use Rattle.pk_runner.proofs.runs.step_on.Goals as goal

pub returns-in_ok-step-in-Wants-clause-told : goal.returns-in_ok-step-in-Wants-clause-told
returns-in_ok-step-in-Wants-clause-told c = λ s agrees.
    let p : Program = program_in c.args.program.now in
    let chs : List Numbers = map (λ (zs : Bor Numbers). zs.now) c.args.choices.now in
    let old : Config = config_in s c.args.config.now in
    let mid : Config = config_in s c.step.new.config in
    let first : told (answers.Wants c.in-Wants.field-0 c.in-Wants.field-1) mid ≡ outcome (step p [] old) old =
    sym (ap (λ (r : Answer). told r mid) c.in-Wants.is) ∙ c.in_ok-answer.ensures.told s (c.in_ok-step-in-Wants.ensures.before s agrees) in
    let w = waits c.in-Wants.field-0 c.in-Wants.field-1 (step p [] old) old mid first in
    let there : c.args.taken < length chs = subst (λ (n : ℕ). c.args.taken < n) (sym (length-map c.args.choices.now (λ (zs : Bor Numbers). zs.now))) c.if-taken-choices.true in
    c.in_ok-step-in-Wants.ensures.told s agrees
    ∙ (ap (λ (d : Config). outcome (step p c.choice.result.now d) d) w.1
    ∙ (ap (λ (zs : Numbers). outcome (step p zs old) old) c.choice.ensures
    ∙ sym (ap (λ (q : Next × List Numbers). outcome q.0 old) (with_next p chs c.args.taken [] old there w.0))))

pub returns-in_ok-step-in-Wants-clause-left : goal.returns-in_ok-step-in-Wants-clause-left
returns-in_ok-step-in-Wants-clause-left c = λ s agrees.
    let p : Program = program_in c.args.program.now in
    let chs : List Numbers = map (λ (zs : Bor Numbers). zs.now) c.args.choices.now in
    let old : Config = config_in s c.args.config.now in
    let mid : Config = config_in s c.step.new.config in
    let first : told (answers.Wants c.in-Wants.field-0 c.in-Wants.field-1) mid ≡ outcome (step p [] old) old =
    sym (ap (λ (r : Answer). told r mid) c.in-Wants.is) ∙ c.in_ok-answer.ensures.told s (c.in_ok-step-in-Wants.ensures.before s agrees) in
    let w = waits c.in-Wants.field-0 c.in-Wants.field-1 (step p [] old) old mid first in
    let there : c.args.taken < length chs = subst (λ (n : ℕ). c.args.taken < n) (sym (length-map c.args.choices.now (λ (zs : Bor Numbers). zs.now))) c.if-taken-choices.true in
    sym (ap (λ (q : Next × List Numbers). q.1) (with_next p chs c.args.taken [] old there w.0))
