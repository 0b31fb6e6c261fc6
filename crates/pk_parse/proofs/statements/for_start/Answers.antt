use Rattle.std.proofs.Common.{length, option_map, refl, ap, sym, ◌∙◌, arith}
use Rattle.pk_ast.specs.Trees.{expression}
use Rattle.pk_ast.specs.Views.{expression_tree}
use Rattle.pk_grammar.specs.Machine.States.{in_a_for, for_second}
use Rattle.pk_grammar.specs.Machine.Running.{run}
use Rattle.pk_parse_expression.proofs.RunLemmas.{passed, fails_as}
use Rattle.pk_parse_expression.proofs.KeptLemmas.{made, not_made}
use Rattle.pk_parse.proofs.RunStatements.{first_part, fails_part, reads_part, unclosed_part, run_for_word}
use Rattle.pk_parse.proofs.statements.for_start.Goals as goal

pub returns-in_err-declaration : goal.returns-in_err-declaration
returns-in_err-declaration c =
    passed _ _ c.from_residual.result _ c.from_residual.ensures.1
    (λ n at o e. fails_as _ _ _ (run_for_word c.args.parser.end n at o _ _ _ c.in-Some.ensures (let h = c.requires in omega arith)) (c.in_err-declaration.ensures (in_a_for n at o) tt refl (sym e)))

pub returns-in-Some : goal.returns-in-Some
returns-in-Some c = (
  λ n at o e.
      run_for_word c.args.parser.end n at o _ _ _ c.in-Some.ensures (let h = c.requires in omega arith)
      ∙ c.in_ok-declaration.ensures.0 (in_a_for n at o) tt refl (sym e)
      ∙ ap (λ q. run c.args.parser.end (for_second n at q o) c.in_ok-declaration.rest.now) (sym c.declaration-in-Some.ensures),
  let h = c.in_ok-declaration.ensures.1 in omega (arith, ap length c.in-Some.ensures.cut),
)

pub returns-in_err-first : goal.returns-in_err-first
returns-in_err-first c =
    passed _ _ c.from_residual-in_err-first.result _ c.from_residual-in_err-first.ensures.1
    (λ n at o e. fails_part c.args.parser.end _ _ _ _ _ _ _ (first_part n at o _ c.args.outside e c.requires c.in_default.ensures) _ c.in_err-first.ensures)

pub returns-in_err-last : goal.returns-in_err-last
returns-in_err-last c =
    passed _ _ c.from_residual-in_err-last.result _ c.from_residual-in_err-last.ensures.1
    (λ n at o e. unclosed_part c.args.parser.end _ _ _ _ _ _ _ (first_part n at o _ c.args.outside e c.requires c.in_default.ensures)
    (option_map expression_tree c.in_ok-first.first) _ _ c.in_ok-first.ensures.0 (not_made _ _ _ _ c.expect.ensures c.in_err-last.ensures))

pub returns : goal.returns
returns c = (
  λ n at o e.
      reads_part c.args.parser.end _ _ _ _ _ _ _ (first_part n at o _ c.args.outside e c.requires c.in_default.ensures)
      (option_map expression_tree c.in_ok-first.first) _ _ _ c.in_ok-first.ensures.0 (made _ _ _ _ c.expect.ensures c.in_ok-last.ensures.0)
      ∙ ap (λ q. run c.args.parser.end (for_second n at q o) c.in_ok-last.last.now) (ap (λ e. expression (option_map expression_tree e)) (sym c.in_ok-last.ensures.1) ∙ sym c.expression.ensures),
  let h = c.in_ok-first.ensures.1 in let closed = made _ _ _ _ c.expect.ensures c.in_ok-last.ensures.0 in omega (arith, ap length closed.cut),
)
