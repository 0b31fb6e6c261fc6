use Rattle.std.proofs.Common.{◌+◌, drop, sym, ◌∙◌, ap, List}
use Rattle.std.proofs.lemmas.List.{drop_more, drop_all}
use Rattle.pk_typed.specs.declared.statements.Declared.{Declared}
use Rattle.pk_typed.specs.Views.{declared_tree, declared_trees}
use Rattle.pk_meaning.specs.Programs.{with_declared, with_all_declared}
use Rattle.pk_runner_frame.specs.Frames.{scope_in}
use Rattle.pk_runner_state.specs.Shown.{program_in}
use Rattle.pk_runner_state.proofs.tables.with_all_declared.Goals as goal

pub returns-in_err-inner-clause-before : goal.returns-in_err-inner-clause-before
returns-in_err-inner-clause-before c = λ s a. c.loop-number.invariant.before s (c.with_declared.ensures.before s a)

pub loop-number-preserved : goal.loop-number-preserved
loop-number-preserved c = record {
  scope = λ s a.
      ap (with_all_declared (program_in c.args.program.now) c.args.path (declared_trees (drop (c.loop-number.number + 1) c.args.objects.now))) (c.in_ok-inner.ensures.scope s a)
      ∙ (ap (λ (d : Declared). with_all_declared (program_in c.args.program.now) c.args.path (declared_trees (drop (c.loop-number.number + 1) c.args.objects.now)) (with_declared
      (program_in c.args.program.now) c.args.path (declared_tree d) (scope_in s c.loop-number.inner))) c.index-objects-number.is
      ∙ (sym (ap (λ (ds : List Declared). with_all_declared (program_in c.args.program.now) c.args.path (declared_trees ds) (scope_in s c.loop-number.inner))
      (drop_more c.args.objects.now c.loop-number.number c.index-objects-number.result c.loop-number-test.true))
      ∙ c.loop-number.invariant.scope s (c.with_declared.ensures.before s a)));
  before = λ s a. c.loop-number.invariant.before s (c.with_declared.ensures.before s a);
}

pub returns-clause-scope : goal.returns-clause-scope
returns-clause-scope c = λ s a.
    sym (ap (λ (ds : List Declared). with_all_declared (program_in c.args.program.now) c.args.path (declared_trees ds) (scope_in s c.loop-number.inner))
    (drop_all c.loop-number.number c.args.objects.now c.loop-number-test.false)) ∙ c.loop-number.invariant.scope s a

pub returns-clause-before : goal.returns-clause-before
returns-clause-before c = λ s a. c.loop-number.invariant.before s a
