use Rattle.std.proofs.Common.{◌∙◌, ap}
use Rattle.pk_type_scope.specs.Failures.{noted}
use Rattle.pk_type_declaration.specs.Views.{walked_in}
use Rattle.pk_type_declaration.specs.Rules.{failing}
use Rattle.pk_type_statement.specs.Rules.{repeated}
use Rattle.pk_type_statement.proofs.CaseLemmas.{next, at_end, next_walked, end_walked, next_numbers, end_numbers}
use Rattle.pk_type_statement.proofs.cases.check.Goals as goal

pub loop-case-preserved : goal.loop-case-preserved
loop-case-preserved c =
    let now = next c.args.cases.now c.loop-case.case-index _ c.loop-case-test.true in
    record {
      walked = next_walked c.args.int_type _ _ (walked_in c.loop-case.walk) _ _ _ _ _ _ now c.in_ok-add_case.ensures c.is_repeated-is_repeated.ensures c.fail_if.ensures c.loop-case.invariant.walked;
      numbers = next_numbers c.args.int_type _ _ _ _ _ _ _ now c.converted.ensures c.in_ok-add.ensures c.loop-case.invariant.numbers;
    }

pub returns-clause-walked : goal.returns-clause-walked
returns-clause-walked c =
    end_walked c.args.int_type _ _ _ _ (at_end c.args.cases.now c.loop-case.case-index c.loop-case-test.false)
    (c.loop-case.invariant.walked ∙ ap (λ b. failing noted (repeated c.args.int_type b c.args.cases.now) (walked_in c.args.walk.now)) c.new-before.ensures)

pub returns-clause-numbers : goal.returns-clause-numbers
returns-clause-numbers c =
    end_numbers c.args.int_type _ c.args.cases.now _ _ _ (at_end c.args.cases.now c.loop-case.case-index c.loop-case-test.false) c.whole.ensures c.new-all.ensures c.loop-case.invariant.numbers
