use Rattle.std.proofs.Common.{◌≡◌, ◌+◌, ◌-◌, ◌∙◌, ap, sym, arith, drop, map, ℕ, List, Bor}
use Rattle.pk_graph.specs.Steps.{Numbers}
use Rattle.pk_meaning.specs.Programs.{Program}
use Rattle.pk_meaning.specs.Steps.{Config, Next, To}
use Rattle.pk_runner_state.specs.declared.states.Answer.{Answer}
use Rattle.pk_runner_state.specs.Shown.{program_in, told, Outcome}
use Rattle.pk_runner.specs.Ran.{config_in, on_from, picked, ran}
use Rattle.pk_runner.proofs.RunLemmas.{goes_on, ends, one_more}
use Rattle.pk_runner.proofs.runs.run.Goals as goal

pub returns-in_default : goal.returns-in_default
returns-in_default c = record {
  told = λ s a.
      let p : Program = program_in c.args.program.now in
      let left : List Numbers = drop c.loop.taken (map (λ (zs : Bor Numbers). zs.now) c.args.choices.now) in
      let old : Config = config_in s c.loop.config in
      let new : Config = config_in s c.step_on.new.config in
      let n : ℕ = c.args.steps - (c.loop.counter + 1) in
      ends c.in_ok-answer.answer (picked p left old).0 old new (λ (e : Config). ran p n (picked p left old).1 e) c.in_default.not-Next (c.in_ok-answer.ensures.told s a)
      ∙ (sym (one_more p (c.args.steps - c.loop.counter) n left old (omega (arith, c.loop-test.true)))
      ∙ c.loop.invariant.told s (c.in_ok-answer.ensures.before s a));
  before = λ s a. c.loop.invariant.before s (c.in_ok-answer.ensures.before s a);
}

pub loop-preserved : goal.loop-preserved
loop-preserved c = record {
  told = λ s a.
      let p : Program = program_in c.args.program.now in
      let chs : List Numbers = map (λ (zs : Bor Numbers). zs.now) c.args.choices.now in
      let left : List Numbers = drop c.loop.taken chs in
      let old : Config = config_in s c.loop.config in
      let new : Config = config_in s c.step_on.new.config in
      let n : ℕ = c.args.steps - (c.loop.counter + 1) in
      let f : Config → Outcome = λ e. ran p n (picked p left old).1 e in
      let next : (picked p left old).0 ≡ To new = goes_on (picked p left old).0 old new (sym (ap (λ (r : Answer). told r new) c.in-Next.is) ∙ c.in_ok-answer.ensures.told s a) in
      ap (λ (zs : List Numbers). ran p n zs new) (c.in_ok-answer.ensures.left s a)
      ∙ (sym (ap (λ (m : Next). on_from m old f) next)
      ∙ (sym (one_more p (c.args.steps - c.loop.counter) n left old (omega (arith, c.loop-test.true)))
      ∙ c.loop.invariant.told s (c.in_ok-answer.ensures.before s a)));
  before = λ s a. c.loop.invariant.before s (c.in_ok-answer.ensures.before s a);
}
