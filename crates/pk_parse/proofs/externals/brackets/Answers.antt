use Rattle.std.proofs.Common.{option_map, Some, sym, ap, ◌∙◌, arith}
use Rattle.pk_ast.specs.Views.{expression_tree}
use Rattle.pk_grammar.specs.Machine.States.{parameter_end}
use Rattle.pk_grammar.specs.Machine.Steps.{with_brackets}
use Rattle.pk_grammar.specs.Machine.Running.{run}
use Rattle.pk_parse_expression.proofs.RunLemmas.{passed, fails_as}
use Rattle.pk_parse_expression.proofs.KeptLemmas.{made, not_made}
use Rattle.pk_parse.proofs.externals.brackets.Goals as goal

pub returns-in_err-length : goal.returns-in_err-length
returns-in_err-length c = passed _ _ c.from_residual.result _ c.from_residual.ensures.1 c.in_err-length.ensures

pub returns-in_err-columns : goal.returns-in_err-columns
returns-in_err-columns c =
    passed _ _ c.from_residual-in_err-columns.result _ c.from_residual-in_err-columns.ensures.1
    (λ d. fails_as _ _ _ (c.in_ok-length.ensures.0 d) (not_made _ _ _ _ c.columns.ensures c.in_err-columns.ensures d _))

pub returns : goal.returns
returns c =
    let l = c.in_ok-length.ensures in
    let q = made _ _ _ _ c.columns.ensures c.in_ok-columns.ensures.0 in
    let h = l.1 in
    let g = q.1 in
    let w = c.new.ensures ∙ ap (λ e. record { length = option_map expression_tree e; columns = option_map expression_tree c.in_ok-columns.columns }) c.in_ok-columns.ensures.1 in
    (λ d. l.0 d ∙ q.0 d _ ∙ ap (λ b. run c.args.parser.end (parameter_end d.head d.before (with_brackets d (Some b))) c.in_ok-columns.rest.now) (sym w), omega arith)
