use Rattle.std.proofs.Common.{length, ap, sym, ◌∙◌, arith}
use Rattle.pk_ast.specs.Trees.{do_while}
use Rattle.pk_ast.specs.Views.{expression_tree}
use Rattle.pk_grammar.specs.Machine.States.{after_statement}
use Rattle.pk_grammar.specs.Machine.Running.{run}
use Rattle.pk_parse_expression.proofs.KeptLemmas.{made, not_made}
use Rattle.pk_parse_expression.proofs.RunLemmas.{passed, fails_as}
use Rattle.pk_parse.proofs.RunStatements.{run_statement_end, no_statement_end}
use Rattle.pk_parse.proofs.StatementLemmas.{run_while, no_while, run_last_test, no_last_test}
use Rattle.pk_parse.proofs.statements.until.Goals as goal

pub returns-in_err-after : goal.returns-in_err-after
returns-in_err-after c = passed _ _ c.from_residual.result _ c.from_residual.ensures.1 (λ n at s o i. no_while c.args.parser.end n o s c.args.tokens.now at _ c.in_err-after.ensures)

pub returns-in_err-test : goal.returns-in_err-test
returns-in_err-test c =
    passed _ _ c.from_residual-in_err-test.result _ c.from_residual-in_err-test.ensures.1
    (λ n at s o i. fails_as _ _ _
    (run_while c.args.parser.end n o s c.args.tokens.now at _ _ c.in_ok-after.ensures (let h = c.requires in omega arith))
    (no_last_test c.args.parser.end n at o c.args.inside i s c.in_ok-after.after.now _ c.in_err-test.ensures))

pub returns-in_err-last : goal.returns-in_err-last
returns-in_err-last c =
    passed _ _ c.from_residual-in_err-last.result _ c.from_residual-in_err-last.ensures.1
    (λ n at s o i. fails_as _ _ _
    (run_while c.args.parser.end n o s c.args.tokens.now at _ _ c.in_ok-after.ensures (let h = c.requires in omega arith)
    ∙ run_last_test c.args.parser.end n at o c.args.inside i s c.in_ok-after.after.now (expression_tree c.in_ok-test.test) _ c.in_ok-test.ensures.0)
    (no_statement_end c.args.parser.end n (do_while at s (expression_tree c.in_ok-test.test)) o c.in_ok-test.end.now _ (not_made _ _ _ _ c.expect-2.ensures c.in_err-last.ensures)))

pub returns : goal.returns
returns c =
    let ended = made _ _ _ _ c.expect-2.ensures c.in_ok-last.ensures.0 in (
      λ n at s o i.
          run_while c.args.parser.end n o s c.args.tokens.now at _ _ c.in_ok-after.ensures (let h = c.requires in omega arith)
          ∙ run_last_test c.args.parser.end n at o c.args.inside i s c.in_ok-after.after.now (expression_tree c.in_ok-test.test) _ c.in_ok-test.ensures.0
          ∙ run_statement_end c.args.parser.end n (do_while at s (expression_tree c.in_ok-test.test)) o c.in_ok-test.end.now _ _ ended (let h = c.requires in omega arith)
          ∙ ap (λ q. run c.args.parser.end (after_statement (do_while at s (expression_tree q)) o) c.in_ok-last.last.now) (sym c.in_ok-last.ensures.1),
      let h = c.in_ok-test.ensures.1 in omega (arith, ap length c.in_ok-after.ensures.cut, ap length ended.cut),
    )
