use Rattle.std.proofs.Common.{◌∙◌, arith}
use Rattle.pk_grammar.specs.declared.signs.Fixed.TheVariants as fixed
use Rattle.pk_parse_expression.proofs.RunLemmas.{passed, fails_as}
use Rattle.pk_parse.proofs.RunDeclarations.{run_no_assign}
use Rattle.pk_parse.proofs.DeclarationLemmas.{shorter, run_assigned}
use Rattle.pk_parse.proofs.declarations.initializer.Goals as goal

pub returns-in_default : goal.returns-in_default
returns-in_default c = (λ d same. run_no_assign _ d _ c.in_default.ensures, omega arith)

pub returns-in_err-value : goal.returns-in_err-value
returns-in_err-value c =
    passed _ _ c.from_residual.result _ c.from_residual.ensures.1
    (λ d same. fails_as _ _ _ (run_assigned _ _ c.requires d same _ _ _ c.in-Some.ensures) (c.in_err-value.ensures d same))

pub returns : goal.returns
returns c =
    let r = c.in_ok-value.ensures in
    let a = shorter fixed.Assign _ _ _ c.in-Some.ensures in
    let h = r.1 in
    (λ d same. run_assigned _ _ c.requires d same _ _ _ c.in-Some.ensures ∙ r.0 d same, omega arith)
