use Rattle.std.proofs.Common.{length, ap, sym, ◌∙◌, arith}
use Rattle.pk_ast.specs.Trees.{goto}
use Rattle.pk_grammar.specs.Languages.{identifier_of}
use Rattle.pk_grammar.specs.Machine.States.{after_statement}
use Rattle.pk_grammar.specs.Machine.Running.{run}
use Rattle.pk_parse_expression.proofs.RunLemmas.{passed, fails_as}
use Rattle.pk_parse.proofs.RunStatements.{run_goto_name, no_goto_name, run_statement_end, no_statement_end}
use Rattle.pk_parse.proofs.statements.goto.Goals as goal

pub returns-in_err-name : goal.returns-in_err-name
returns-in_err-name c =
    passed _ _ c.from_residual.result _ c.from_residual.ensures.1
    (λ n o h. no_goto_name c.args.parser.end n c.args.at o _ _ c.in_err-name.ensures)

pub returns-in_err-last : goal.returns-in_err-last
returns-in_err-last c =
    passed _ _ c.from_residual-in_err-last.result _ c.from_residual-in_err-last.ensures.1
    (λ n o h. fails_as _ _ _ (run_goto_name c.args.parser.end n c.args.at o _ _ _ c.in_ok-name.ensures h)
    (no_statement_end c.args.parser.end n (goto c.args.at (identifier_of c.in_ok-name.name)) o _ _ c.in_err-last.ensures))

pub returns : goal.returns
returns c = (
  λ n o h.
      run_goto_name c.args.parser.end n c.args.at o _ _ _ c.in_ok-name.ensures h
      ∙ run_statement_end c.args.parser.end n (goto c.args.at (identifier_of c.in_ok-name.name)) o _ _ _ c.in_ok-last.ensures (omega arith)
      ∙ ap (λ q. run c.args.parser.end (after_statement q o) c.in_ok-last.last.now) (sym (c.goto.ensures ∙ ap (λ id. goto c.args.at id) c.identifier.ensures)),
  omega (arith, ap length c.in_ok-name.ensures.cut, ap length c.in_ok-last.ensures.cut),
)
