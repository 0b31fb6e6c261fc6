use Rattle.std.proofs.Common.{length, option_map, ap, sym, ◌∙◌, arith}
use Rattle.pk_ast.specs.Trees.{return}
use Rattle.pk_ast.specs.Views.{expression_tree}
use Rattle.pk_grammar.specs.Machine.States.{after_statement}
use Rattle.pk_grammar.specs.Machine.Running.{run}
use Rattle.pk_parse_expression.proofs.RunLemmas.{passed}
use Rattle.pk_parse_expression.proofs.KeptLemmas.{made, not_made}
use Rattle.pk_parse.proofs.RunStatements.{result_part, fails_part, reads_part, unclosed_part}
use Rattle.pk_parse.proofs.statements.returning.Goals as goal

pub returns-in_err-value : goal.returns-in_err-value
returns-in_err-value c =
    passed _ _ c.from_residual.result _ c.from_residual.ensures.1
    (λ n o e. fails_part c.args.parser.end _ _ _ _ _ _ _ (result_part n c.args.at o _ c.args.inside e c.requires) _ c.in_err-value.ensures)

pub returns-in_err-last : goal.returns-in_err-last
returns-in_err-last c =
    passed _ _ c.from_residual-in_err-last.result _ c.from_residual-in_err-last.ensures.1
    (λ n o e. unclosed_part c.args.parser.end _ _ _ _ _ _ _ (result_part n c.args.at o _ c.args.inside e c.requires)
    (option_map expression_tree c.in_ok-value.value) _ _ c.in_ok-value.ensures.0 (not_made _ _ _ _ c.expect.ensures c.in_err-last.ensures))

pub returns : goal.returns
returns c = (
  λ n o e.
      reads_part c.args.parser.end _ _ _ _ _ _ _ (result_part n c.args.at o _ c.args.inside e c.requires)
      (option_map expression_tree c.in_ok-value.value) _ _ _ c.in_ok-value.ensures.0 (made _ _ _ _ c.expect.ensures c.in_ok-last.ensures.0)
      ∙ ap (λ q. run c.args.parser.end (after_statement q o) c.in_ok-last.last.now) (ap (λ e. return c.args.at (option_map expression_tree e)) (sym c.in_ok-last.ensures.1) ∙ sym c.return_statement.ensures),
  let h = c.in_ok-value.ensures.1 in let closed = made _ _ _ _ c.expect.ensures c.in_ok-last.ensures.0 in omega (arith, ap length closed.cut),
)
