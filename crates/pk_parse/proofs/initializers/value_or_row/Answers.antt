use Rattle.std.proofs.Common.{arith}
use Rattle.pk_grammar.specs.declared.signs.Fixed.TheVariants as fixed
use Rattle.pk_parse_expression.proofs.RunLemmas.{passed, handed}
use Rattle.pk_parse.proofs.DeclarationLemmas.{shorter}
use Rattle.pk_parse.proofs.InitializerLemmas.{fails_opened, reads_opened, fails_alone, reads_alone}
use Rattle.pk_parse.proofs.initializers.value_or_row.Goals as goal

pub returns-in-Some : goal.returns-in-Some
returns-in-Some c =
    let a = shorter fixed.OpenBrace _ _ _ c.in-Some.ensures in
    handed _ _ _ _ c.row.result c.row.ensures
    (λ r e. (reads_opened _ _ c.requires _ _ _ c.in-Some.ensures _ _ e.0, (let h = e.1 in omega arith)))
    (λ x e. fails_opened _ _ c.requires _ _ _ c.in-Some.ensures x e)

pub returns-in_err-value : goal.returns-in_err-value
returns-in_err-value c = passed _ _ c.from_residual.result _ c.from_residual.ensures.1 (fails_alone _ _ c.requires _ c.in_default.ensures _ c.in_err-value.ensures)

pub returns : goal.returns
returns c =
    let r = c.in_ok-value.ensures in
    (reads_alone _ _ c.requires _ c.in_default.ensures _ _ r.0 r.1 _ c.value.ensures, r.3)
