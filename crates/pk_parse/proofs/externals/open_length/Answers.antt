use Rattle.std.proofs.Common.{None, ◌∙◌, arith}
use Rattle.pk_grammar.specs.declared.signs.Fixed.TheVariants as fixed
use Rattle.pk_parse_expression.proofs.RunLemmas.{passed, fails_as}
use Rattle.pk_parse.proofs.DeclarationLemmas.{shorter}
use Rattle.pk_parse.proofs.RunParameters.{run_no_length, run_length}
use Rattle.pk_parse.proofs.externals.open_length.Goals as goal

pub returns-in-Some : goal.returns-in-Some
returns-in-Some c =
    let a = shorter fixed.CloseBracket _ _ _ c.in-Some.ensures in
    (λ d. run_no_length _ d _ _ _ c.in-Some.ensures, omega arith)

pub returns-in_err-length : goal.returns-in_err-length
returns-in_err-length c = passed _ _ c.from_residual.result _ c.from_residual.ensures.1 (λ d. fails_as _ _ _ (run_length _ d _ c.in_default.ensures) (c.in_err-length.ensures d None))

pub returns : goal.returns
returns c = (λ d. run_length _ d _ c.in_default.ensures ∙ c.in_ok-length.ensures.0 d None, c.in_ok-length.ensures.1)
