use Rattle.std.proofs.Common.{Some, refl, sym, subst, arith}
use Rattle.pk_ast.specs.declared.expressions.Expression.{Expression}
use Rattle.pk_ast.specs.Views.{expression_tree}
use Rattle.pk_grammar.specs.declared.signs.Fixed.TheVariants as fixed
use Rattle.pk_parse_expression.proofs.RunLemmas.{passed}
use Rattle.pk_parse_expression.proofs.KeptLemmas.{made, not_made}
use Rattle.pk_parse.specs.Parts.{IsLength}
use Rattle.pk_parse.proofs.DeclarationLemmas.{shorter, sinks_length, fails_length, stops_length, reads_length}
use Rattle.pk_parse.proofs.declarations.length.Goals as goal

pub returns-in_default : goal.returns-in_default
returns-in_default c = ((refl, c.in_default.ensures), omega arith)

pub returns-in_err-inside : goal.returns-in_err-inside
returns-in_err-inside c =
    passed _ _ c.from_residual.result _ c.from_residual.ensures.1 (λ d id rows same. sinks_length _ d id rows _ _ same _ _ c.in-Some.ensures _ c.in_err-inside.ensures)

pub returns-in_err-length : goal.returns-in_err-length
returns-in_err-length c =
    passed _ _ c.from_residual-in_err-length.result _ c.from_residual-in_err-length.ensures.1
    (λ d id rows same. fails_length _ d id rows _ _ same _ _ c.in-Some.ensures _ c.in_ok-inside.ensures _ c.in_err-length.ensures)

pub returns-in_err-last : goal.returns-in_err-last
returns-in_err-last c =
    let r = c.in_ok-length.ensures in
    passed _ _ c.from_residual-in_err-last.result _ c.from_residual-in_err-last.ensures.1
    (λ d id rows same. stops_length _ d id rows _ _ same _ _ c.in-Some.ensures _ c.in_ok-inside.ensures _ _ r.0 _ r.1 (not_made _ _ _ _ c.expect.ensures c.in_err-last.ensures))

pub returns : goal.returns
returns c =
    let r = c.in_ok-length.ensures in
    let a = shorter fixed.OpenBracket _ _ _ c.in-Some.ensures in
    let closed = made _ _ _ _ c.expect.ensures c.in_ok-last.ensures.0 in
    let b = shorter fixed.CloseBracket _ _ _ closed in
    let h = r.3 in
    let P : Expression → Type 0 = λ e. IsLength c.args.parser.end c.args.outside c.args.tokens.now (Some (expression_tree e)) c.in_ok-last.last.now in
    (subst P (sym c.in_ok-last.ensures.1) (λ d id rows same. reads_length _ d id rows _ _ same _ _ c.in-Some.ensures _ c.in_ok-inside.ensures _ _ r.0 _ _ closed), omega arith)
