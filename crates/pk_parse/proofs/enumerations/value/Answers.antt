use Rattle.std.proofs.Common.{refl, arith}
use Rattle.pk_grammar.specs.declared.signs.Fixed.TheVariants as fixed
use Rattle.pk_parse_expression.proofs.RunLemmas.{passed}
use Rattle.pk_parse.proofs.DeclarationLemmas.{shorter}
use Rattle.pk_parse.proofs.EnumerationLemmas.{fails_given, reads_given}
use Rattle.pk_parse.proofs.enumerations.value.Goals as goal

pub returns-in_default : goal.returns-in_default
returns-in_default c = (λ d id same. refl, c.in_default.ensures, omega arith)

pub returns-in_err-value : goal.returns-in_err-value
returns-in_err-value c =
    passed _ _ c.from_residual.result _ c.from_residual.ensures.1 (λ d id same. fails_given _ _ c.requires _ _ _ c.in-Some.ensures d id same _ c.in_err-value.ensures)

pub returns : goal.returns
returns c =
    let r = c.in_ok-value.ensures in
    let a = shorter fixed.Assign _ _ _ c.in-Some.ensures in
    let h = r.3 in
    (λ d id same. reads_given _ _ c.requires _ _ _ c.in-Some.ensures d id same _ _ r.0, r.1, omega arith)
