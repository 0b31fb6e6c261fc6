use Rattle.std.proofs.Common.{◌+◌, drop, sym, ◌∙◌, ap, List}
use Rattle.std.proofs.lemmas.List.{drop_more, drop_all}
use Rattle.pk_ctypes.specs.declared.types.IntType.{IntType}
use Rattle.pk_ctypes.specs.declared.types.IntType.TheVariants.{Int}
use Rattle.pk_meaning.specs.Programs.{with_parameters}
use Rattle.pk_runner_frame.specs.Frames.{scope_in}
use Rattle.pk_runner_state.specs.Shown.{program_in}
use Rattle.pk_runner_state.proofs.tables.with_parameters.Goals as goal

pub returns-in_err-inner-clause-before : goal.returns-in_err-inner-clause-before
returns-in_err-inner-clause-before c = λ s a. c.loop-number.invariant.before s (c.with_local.ensures.before s a)

pub loop-number-preserved : goal.loop-number-preserved
loop-number-preserved c = record {
  scope = λ s a.
      ap (with_parameters (program_in c.args.program.now) c.args.path (c.loop-number.number + 1) (drop (c.loop-number.number + 1) c.args.types.now)) (c.in_ok-inner.ensures.scope s a)
      ∙ (sym (ap (λ (ts : List IntType). with_parameters (program_in c.args.program.now) c.args.path c.loop-number.number ts (scope_in s c.loop-number.inner))
      (drop_more c.args.types.now c.loop-number.number Int c.loop-number-test.true))
      ∙ c.loop-number.invariant.scope s (c.with_local.ensures.before s a));
  before = λ s a. c.loop-number.invariant.before s (c.with_local.ensures.before s a);
}

pub returns-clause-scope : goal.returns-clause-scope
returns-clause-scope c = λ s a.
    sym (ap (λ (ts : List IntType). with_parameters (program_in c.args.program.now) c.args.path c.loop-number.number ts (scope_in s c.loop-number.inner))
    (drop_all c.loop-number.number c.args.types.now c.loop-number-test.false)) ∙ c.loop-number.invariant.scope s a

pub returns-clause-before : goal.returns-clause-before
returns-clause-before c = λ s a. c.loop-number.invariant.before s a
