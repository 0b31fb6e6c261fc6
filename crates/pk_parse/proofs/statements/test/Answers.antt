use Rattle.std.proofs.Common.{length, sym, ap, ◌∙◌, arith}
use Rattle.pk_ast.specs.Views.{expression_tree}
use Rattle.pk_grammar.specs.Machine.Running.{run}
use Rattle.pk_parse_expression.proofs.RunLemmas.{passed}
use Rattle.pk_parse_expression.proofs.KeptLemmas.{made, not_made}
use Rattle.pk_parse.proofs.RunStatements.{unopened_test, deep_test, fails_test, unclosed_test, reads_test}
use Rattle.pk_parse.proofs.statements.test.Goals as goal

pub returns-in_err-open : goal.returns-in_err-open
returns-in_err-open c =
    passed _ _ c.from_residual.result _ c.from_residual.ensures.1
    (λ s p next i. unopened_test c.args.parser.end c.args.outside c.args.tokens.now s p next i _ c.in_err-open.ensures)

pub returns-in_err-inside : goal.returns-in_err-inside
returns-in_err-inside c =
    passed _ _ c.from_residual-in_err-inside.result _ c.from_residual-in_err-inside.ensures.1
    (λ s p next i. deep_test c.args.parser.end c.args.outside c.args.tokens.now s p next i _ _ _ c.in_ok-open.ensures c.in_err-inside.ensures)

pub returns-in_err-whole : goal.returns-in_err-whole
returns-in_err-whole c =
    passed _ _ c.from_residual-in_err-whole.result _ c.from_residual-in_err-whole.ensures.1
    (λ s p next i. fails_test c.args.parser.end c.args.outside c.args.tokens.now s p next i _ _ _ c.in_ok-open.ensures c.in_ok-inside.ensures _ c.in_err-whole.ensures)

pub returns-in_err-last : goal.returns-in_err-last
returns-in_err-last c =
    let w = c.in_ok-whole.ensures in
    passed _ _ c.from_residual-in_err-last.result _ c.from_residual-in_err-last.ensures.1
    (λ s p next i. unclosed_test c.args.parser.end c.args.outside c.args.tokens.now s p next i _ _ _ c.in_ok-open.ensures c.in_ok-inside.ensures (expression_tree c.in_ok-whole.whole) _ w.0 w.1 _ (not_made _ _ _ _ c.expect-2.ensures c.in_err-last.ensures))

pub returns : goal.returns
returns c =
    let w = c.in_ok-whole.ensures in
    let closed = made _ _ _ _ c.expect-2.ensures c.in_ok-last.ensures.0 in (
      λ s p next i. reads_test c.args.parser.end c.args.outside c.args.tokens.now s p next i _ _ _ c.in_ok-open.ensures c.in_ok-inside.ensures (expression_tree c.in_ok-whole.whole) _ w.0 w.1 _ _ closed
          ∙ ap (λ q. run c.args.parser.end (next (expression_tree q)) c.in_ok-last.last.now) (sym c.in_ok-last.ensures.1),
      omega (arith, w.2, ap length c.in_ok-open.ensures.cut, ap length closed.cut),
    )
