use Rattle.std.proofs.Common.{◌≡◌, Option, sym, subst, arith}
use Rattle.pk_ast.specs.declared.expressions.Expression.{Expression}
use Rattle.pk_ast.specs.Trees.{ExpressionTree}
use Rattle.pk_ast.specs.Views.{expression_tree}
use Rattle.pk_grammar.specs.declared.signs.Fixed.TheVariants as fixed
use Rattle.pk_grammar.specs.Machine.States.{Receiving, as_whole, operand}
use Rattle.pk_grammar.specs.Machine.Running.{run}
use Rattle.pk_parse_expression.proofs.RunLemmas.{passed}
use Rattle.pk_parse_expression.proofs.KeptLemmas.{made, not_made}
use Rattle.pk_parse.specs.Parts.{bracket_purpose, next_bracket_state}
use Rattle.pk_parse.proofs.DeclarationLemmas.{shorter}
use Rattle.pk_parse.proofs.RunParameters.{level}
use Rattle.pk_parse.proofs.ParameterLemmas.{stops_closed, reads_closed}
use Rattle.pk_parse.proofs.externals.closed_length.Goals as goal

pub returns-in_err-length : goal.returns-in_err-length
returns-in_err-length c = passed _ _ c.from_residual.result _ c.from_residual.ensures.1 (λ d b. c.in_err-length.ensures (as_whole (bracket_purpose d b)) (level d b))

pub returns-in_err-last : goal.returns-in_err-last
returns-in_err-last c =
    let r = c.in_ok-length.ensures in
    passed _ _ c.from_residual-in_err-last.result _ c.from_residual-in_err-last.ensures.1
    (λ d b. stops_closed _ _ _ _ r.0 d b _ r.1 (not_made _ _ _ _ c.expect.ensures c.in_err-last.ensures))

pub returns : goal.returns
returns c =
    let r = c.in_ok-length.ensures in
    let closed = made _ _ _ _ c.expect.ensures c.in_ok-last.ensures.0 in
    let b = shorter fixed.CloseBracket _ _ _ closed in
    let h = r.3 in
    let P : Expression → Type 0 = λ e. (d : Receiving) (b : Option (Option ExpressionTree)) →
    run c.args.parser.end (operand 2 (as_whole (bracket_purpose d b))) c.args.tokens.now ≡ run c.args.parser.end (next_bracket_state d b (expression_tree e)) c.in_ok-last.last.now in
    (subst P (sym c.in_ok-last.ensures.1) (λ d b. reads_closed _ _ _ _ r.0 d b _ _ closed), omega arith)
