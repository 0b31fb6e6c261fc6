use Rattle.std.proofs.Common.{arith}
use Rattle.pk_grammar.specs.declared.signs.Fixed.TheVariants as fixed
use Rattle.pk_ast.specs.Views.{declarator_trees}
use Rattle.pk_parse_expression.proofs.RunLemmas.{passed, handed}
use Rattle.pk_parse.proofs.DeclarationLemmas.{shorter, reads_alone, stops_first_name, fails_declarators, reads_named}
use Rattle.pk_parse.proofs.declarations.declared.Goals as goal

pub returns-in-Some : goal.returns-in-Some
returns-in-Some c =
    let a = shorter fixed.Semicolon _ _ _ c.in-Some.ensures.0 in
    (λ s specs e at. reads_alone _ _ c.requires _ _ s specs e at _ _ c.in-Some.ensures _ c.new.ensures.items, omega arith)

pub returns-in_err-token : goal.returns-in_err-token
returns-in_err-token c =
    passed _ _ c.from_residual.result _ c.from_residual.ensures.1 (λ s specs e at. stops_first_name _ _ c.requires _ _ s specs e at _ c.in_default.ensures c.in_err-token.ensures)

pub returns : goal.returns
returns c =
    let b = c.in_ok-token.ensures in
    let a = shorter fixed.Name _ _ _ b in
    handed _ _ _ _ c.declarators.result c.declarators.ensures
    (λ r h. (λ s specs e at. reads_named _ _ c.requires _ _ s specs e at _ _ _ b c.identifier.ensures (declarator_trees r.0.items) _ h.0, let g = h.1 in omega arith))
    (λ x f s specs e at. fails_declarators _ _ c.requires _ _ s specs e at _ _ _ b c.identifier.ensures x f)
