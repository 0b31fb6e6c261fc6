use Rattle.std.proofs.Common.{◌+◌, length, option_map, sym, ap, ◌∙◌, arith}
use Rattle.pk_ast.specs.Views.{expression_tree}
use Rattle.pk_grammar.specs.Machine.States.{in_for, at_statement}
use Rattle.pk_grammar.specs.Machine.Running.{run}
use Rattle.pk_parse_expression.proofs.RunLemmas.{passed, fails_as}
use Rattle.pk_parse_expression.proofs.KeptLemmas.{made, not_made}
use Rattle.pk_parse.proofs.RunStatements.{second_part, third_part, fails_part, reads_part, unclosed_part}
use Rattle.pk_parse.proofs.statements.for_tests.Goals as goal

pub returns-in_err-test : goal.returns-in_err-test
returns-in_err-test c =
    passed _ _ c.from_residual.result _ c.from_residual.ensures.1
    (λ n at f o e. fails_part c.args.parser.end _ _ _ _ _ _ _ (second_part n at o _ c.args.outside f e c.requires) _ c.in_err-test.ensures)

pub returns-in_err-third : goal.returns-in_err-third
returns-in_err-third c =
    passed _ _ c.from_residual-in_err-third.result _ c.from_residual-in_err-third.ensures.1
    (λ n at f o e. unclosed_part c.args.parser.end _ _ _ _ _ _ _ (second_part n at o _ c.args.outside f e c.requires)
    (option_map expression_tree c.in_ok-test.test) _ _ c.in_ok-test.ensures.0 (not_made _ _ _ _ c.expect.ensures c.in_err-third.ensures))

pub returns-in_err-step : goal.returns-in_err-step
returns-in_err-step c =
    passed _ _ c.from_residual-in_err-step.result _ c.from_residual-in_err-step.ensures.1
    (λ n at f o e. fails_as _ _ _
    (reads_part c.args.parser.end _ _ _ _ _ _ _ (second_part n at o _ c.args.outside f e c.requires) (option_map expression_tree c.in_ok-test.test) _ _ _ c.in_ok-test.ensures.0 (made _ _ _ _ c.expect.ensures c.in_ok-third.ensures.0))
    (fails_part c.args.parser.end _ _ _ _ _ _ _ (third_part n at o _ c.args.outside f (option_map expression_tree c.in_ok-test.test) e c.requires) _ (not_made _ _ _ _ c.optional-2.ensures c.in_err-step.ensures)))

pub returns-in_err-last : goal.returns-in_err-last
returns-in_err-last c =
    passed _ _ c.from_residual-in_err-last.result _ c.from_residual-in_err-last.ensures.1
    (λ n at f o e. fails_as _ _ _
    (reads_part c.args.parser.end _ _ _ _ _ _ _ (second_part n at o _ c.args.outside f e c.requires) (option_map expression_tree c.in_ok-test.test) _ _ _ c.in_ok-test.ensures.0 (made _ _ _ _ c.expect.ensures c.in_ok-third.ensures.0))
    (unclosed_part c.args.parser.end _ _ _ _ _ _ _ (third_part n at o _ c.args.outside f (option_map expression_tree c.in_ok-test.test) e c.requires)
    (option_map expression_tree c.in_ok-step.step) _ _ (made _ _ _ _ c.optional-2.ensures c.in_ok-step.ensures.0).0 (not_made _ _ _ _ c.expect-2.ensures c.in_err-last.ensures)))

pub returns : goal.returns
returns c =
    let third = made _ _ _ _ c.expect.ensures c.in_ok-third.ensures.0 in
    let stepped = made _ _ _ _ c.optional-2.ensures c.in_ok-step.ensures.0 in
    let closed = made _ _ _ _ c.expect-2.ensures c.in_ok-last.ensures.0 in (
      λ n at f o e.
          reads_part c.args.parser.end _ _ _ _ _ _ _ (second_part n at o _ c.args.outside f e c.requires) (option_map expression_tree c.in_ok-test.test) _ _ _ c.in_ok-test.ensures.0 third
          ∙ reads_part c.args.parser.end _ _ _ _ _ _ _ (third_part n at o _ c.args.outside f (option_map expression_tree c.in_ok-test.test) e c.requires)
          (option_map expression_tree c.in_ok-step.step) _ _ _ stepped.0 closed
          ∙ ap (λ q. run c.args.parser.end (at_statement (n + 1) (in_for n at f (option_map expression_tree q) (option_map expression_tree c.in_ok-step.step) o)) c.in_ok-last.last.now) (sym (ap (λ q. q.0) c.in_ok-last.ensures.1 ∙ c.in_ok-step.ensures.1 ∙ c.in_ok-third.ensures.1))
          ∙ ap (λ q. run c.args.parser.end (at_statement (n + 1) (in_for n at f (option_map expression_tree c.in_ok-last.test) (option_map expression_tree q) o)) c.in_ok-last.last.now) (sym (ap (λ q. q.1) c.in_ok-last.ensures.1)),
      let g = c.in_ok-test.ensures.1 in let h = stepped.1 in omega (arith, ap length third.cut, ap length closed.cut),
    )
