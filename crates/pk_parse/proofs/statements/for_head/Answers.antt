use Rattle.std.proofs.Common.{◌≡◌, ◌+◌, length, option_map, ap, sym, ◌∙◌, arith}
use Rattle.pk_ast.specs.declared.statements.ForHead.{ForHead}
use Rattle.pk_ast.specs.Views.{expression_tree, for_start_tree}
use Rattle.pk_grammar.specs.Machine.States.{in_for, at_statement}
use Rattle.pk_grammar.specs.Machine.Running.{run}
use Rattle.pk_parse_expression.proofs.RunLemmas.{passed, fails_as}
use Rattle.pk_parse_expression.proofs.KeptLemmas.{made, not_made}
use Rattle.pk_parse.proofs.StatementLemmas.{run_for_open, no_for_open, deep_for_open}
use Rattle.pk_parse.proofs.statements.for_head.Goals as goal

pub returns-in_err-open : goal.returns-in_err-open
returns-in_err-open c =
    passed _ _ c.from_residual.result _ c.from_residual.ensures.1
    (λ n at o e. no_for_open c.args.parser.end n at o c.args.tokens.now c.args.inside e _ c.in_err-open.ensures)

pub returns-in_err-head : goal.returns-in_err-head
returns-in_err-head c =
    passed _ _ c.from_residual-in_err-head.result _ c.from_residual-in_err-head.ensures.1
    (λ n at o e. deep_for_open c.args.parser.end n at o c.args.tokens.now c.args.inside e _ _ _ c.in_ok-open.ensures c.in_err-head.ensures)

pub returns-in_err-start : goal.returns-in_err-start
returns-in_err-start c =
    let h = c.in_ok-head.ensures in
    passed _ _ c.from_residual-in_err-start.result _ c.from_residual-in_err-start.ensures.1
    (λ n at o e. fails_as _ _ _ (run_for_open c.args.parser.end n at o c.args.tokens.now c.args.inside e _ _ _ c.in_ok-open.ensures h)
    (c.in_err-start.ensures n at o (let f = h.0 in omega arith)))

pub returns-in_err-condition : goal.returns-in_err-condition
returns-in_err-condition c =
    let h = c.in_ok-head.ensures in
    passed _ _ c.from_residual-in_err-condition.result _ c.from_residual-in_err-condition.ensures.1
    (λ n at o e.
    let two : c.in_ok-head.head ≡ n + 2 = let f = h.0 in omega arith in
    fails_as _ _ _
    (run_for_open c.args.parser.end n at o c.args.tokens.now c.args.inside e _ _ _ c.in_ok-open.ensures h ∙ c.in_ok-start.ensures.0 n at o two)
    (not_made _ _ _ _ c.for_tests.ensures c.in_err-condition.ensures n at (for_start_tree c.in_ok-start.start) o two))

pub returns : goal.returns
returns c =
    let h = c.in_ok-head.ensures in
    let tests = made _ _ _ _ c.for_tests.ensures c.in_ok-condition.ensures.0 in (
      λ n at o e.
          let two : c.in_ok-head.head ≡ n + 2 = let f = h.0 in omega arith in
          run_for_open c.args.parser.end n at o c.args.tokens.now c.args.inside e _ _ _ c.in_ok-open.ensures h
          ∙ c.in_ok-start.ensures.0 n at o two
          ∙ tests.0 n at (for_start_tree c.in_ok-start.start) o two
          ∙ ap (λ s. run c.args.parser.end (at_statement (n + 1) (in_for n at (for_start_tree s) (option_map expression_tree c.in_ok-condition.condition) (option_map expression_tree c.in_ok-condition.step) o)) c.in_ok-condition.last.now) (sym c.in_ok-condition.ensures.1)
          ∙ ap (λ q. run c.args.parser.end (at_statement q (in_for n at (for_start_tree c.in_ok-condition.start) (option_map expression_tree c.in_ok-condition.condition) (option_map expression_tree c.in_ok-condition.step) o)) c.in_ok-condition.last.now) (sym e)
          ∙ ap (λ (h : ForHead). run c.args.parser.end (at_statement c.args.inside (in_for n at (for_start_tree h.start) (option_map expression_tree h.condition) (option_map expression_tree h.step) o)) c.in_ok-condition.last.now) (sym c.in_ok-new.ensures.ok),
      let f = c.in_ok-start.ensures.1 in let g = tests.1 in omega (arith, ap length c.in_ok-open.ensures.cut),
    )
