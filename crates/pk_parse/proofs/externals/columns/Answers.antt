use Rattle.std.proofs.Common.{Some, ◌∙◌, arith}
use Rattle.pk_grammar.specs.declared.signs.Fixed.TheVariants as fixed
use Rattle.pk_parse_expression.proofs.RunLemmas.{passed, fails_as}
use Rattle.pk_parse.proofs.DeclarationLemmas.{shorter}
use Rattle.pk_parse.proofs.RunParameters.{run_columns, run_no_columns}
use Rattle.pk_parse.proofs.externals.columns.Goals as goal

pub returns-in_default : goal.returns-in_default
returns-in_default c = (λ d l. run_no_columns _ d _ l c.in_default.ensures, omega arith)

pub returns-in_err-columns : goal.returns-in_err-columns
returns-in_err-columns c =
    passed _ _ c.from_residual.result _ c.from_residual.ensures.1 (λ d l. fails_as _ _ _ (run_columns _ d _ l _ _ c.in-Some.ensures) (c.in_err-columns.ensures d (Some l)))

pub returns : goal.returns
returns c =
    let a = shorter fixed.OpenBracket _ _ _ c.in-Some.ensures in
    let h = c.in_ok-columns.ensures.1 in
    (λ d l. run_columns _ d _ l _ _ c.in-Some.ensures ∙ c.in_ok-columns.ensures.0 d (Some l), omega arith)
