use Rattle.std.proofs.Common.{option_map, ap, ◌∙◌, arith}
use Rattle.pk_ast.specs.Views.{expression_tree, enumerator_tree}
use Rattle.pk_grammar.specs.declared.signs.Fixed.TheVariants as fixed
use Rattle.pk_parse_expression.proofs.RunLemmas.{passed}
use Rattle.pk_parse_expression.proofs.KeptLemmas.{made, not_made}
use Rattle.pk_parse.proofs.DeclarationLemmas.{shorter}
use Rattle.pk_parse.proofs.EnumerationLemmas.{stops_enumerator, fails_value, fails_end, reads_enumerator}
use Rattle.pk_parse.proofs.enumerations.enumerator.Goals as goal

pub returns-in_err-token : goal.returns-in_err-token
returns-in_err-token c = passed _ _ c.from_residual.result _ c.from_residual.ensures.1 (stops_enumerator _ _ _ _ c.in_err-token.ensures)

pub returns-in_err-value : goal.returns-in_err-value
returns-in_err-value c =
    passed _ _ c.from_residual-in_err-value.result _ c.from_residual-in_err-value.ensures.1 (fails_value _ _ c.requires _ _ _ c.in_ok-token.ensures _ c.in_err-value.ensures)

pub returns-in_err-another : goal.returns-in_err-another
returns-in_err-another c =
    let r = c.in_ok-value.ensures in
    passed _ _ c.from_residual-in_err-another.result _ c.from_residual-in_err-another.ensures.1
    (fails_end _ _ c.requires _ _ _ c.in_ok-token.ensures _ _ r.0 r.1 _ (not_made _ _ _ _ c.enumerator_end.ensures c.in_err-another.ensures))

pub returns : goal.returns
returns c =
    let r = c.in_ok-value.ensures in
    let q = made _ _ _ _ c.enumerator_end.ensures c.in_ok-another.ensures.0 in
    let a = shorter fixed.Name _ _ _ c.in_ok-token.ensures in
    let h = r.2 in
    let g = q.2 in (
      reads_enumerator _ _ c.requires _ _ _ c.in_ok-token.ensures _ _ r.0 r.1 _ _ q.0 _ c.identifier.ensures (enumerator_tree c.new.result)
          (c.new.ensures ∙ ap (λ v. record { name = c.identifier.result; value = option_map expression_tree v }) c.in_ok-another.ensures.1),
      q.1,
      omega arith,
    )
