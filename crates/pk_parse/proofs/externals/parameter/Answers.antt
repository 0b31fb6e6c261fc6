use Rattle.std.proofs.Common.{Some, ap, option_map, ◌∙◌, arith}
use Rattle.pk_ast.specs.Views.{brackets_tree, specifiers_tree}
use Rattle.pk_grammar.specs.declared.signs.Fixed.TheVariants as fixed
use Rattle.pk_parse_expression.proofs.RunLemmas.{passed}
use Rattle.pk_parse_expression.proofs.KeptLemmas.{made, not_made}
use Rattle.pk_parse.proofs.DeclarationLemmas.{shorter}
use Rattle.pk_parse.proofs.ParameterLemmas.{no_parameter_type, no_longer, reads_unbracketed, fails_brackets, reads_bracketed}
use Rattle.pk_parse.proofs.externals.parameter.Goals as goal

pub returns-in_err-words : goal.returns-in_err-words
returns-in_err-words c = passed _ _ c.from_residual.result _ c.from_residual.ensures.1 (no_parameter_type _ _ _ _ c.in_err-words.ensures)

pub returns-in_default : goal.returns-in_default
returns-in_default c =
    let are = c.in_ok-words.ensures in
    let n = c.parameter_name-name.ensures in
    let r = reads_unbracketed _ _ _ _ _ are c.parameter_name-name.result.0 _ n.name _ c.in_default.ensures c.new.ensures in
    let a = no_longer c.args.parser.end _ _ _ _ are c.parameter_name-name.result.0 _ n.name in
    let b = n.rest in
    (r.0, r.1, omega arith)

pub returns-in_err-brackets : goal.returns-in_err-brackets
returns-in_err-brackets c =
    passed _ _ c.from_residual-in_err-brackets.result _ c.from_residual-in_err-brackets.ensures.1
    (fails_brackets _ _ _ _ _ c.in_ok-words.ensures c.parameter_name-name.result.0 _ c.parameter_name-name.ensures.name _ _ c.in-Some.ensures _ (not_made _ _ _ _ c.brackets.ensures c.in_err-brackets.ensures))

pub returns : goal.returns
returns c =
    let are = c.in_ok-words.ensures in
    let n = c.parameter_name-name.ensures in
    let q = made _ _ _ _ c.brackets.ensures c.in_ok-brackets.ensures.0 in
    let same = c.new-2.ensures ∙ ap (λ w. record { specifiers = specifiers_tree w; name = c.parameter_name-name.result.0; brackets = option_map brackets_tree (Some c.in_ok-brackets.brackets) }) c.in_ok-brackets.ensures.1 in
    let r = reads_bracketed _ _ _ _ _ are c.parameter_name-name.result.0 _ n.name _ _ c.in-Some.ensures _ _ _ q.0 same in
    let a = no_longer c.args.parser.end _ _ _ _ are c.parameter_name-name.result.0 _ n.name in
    let b = n.rest in
    let s = shorter fixed.OpenBracket _ _ _ c.in-Some.ensures in
    let h = q.1 in
    (r.0, r.1, omega arith)
