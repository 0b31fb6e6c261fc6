use Rattle.std.proofs.Common.{arith}
use Rattle.pk_grammar.specs.declared.signs.Fixed.TheVariants as fixed
use Rattle.pk_parse_expression.proofs.RunLemmas.{passed}
use Rattle.pk_parse.proofs.DeclarationLemmas.{shorter}
use Rattle.pk_parse.proofs.EnumerationLemmas.{ends_last, ends_next, ends_comma, stops_end}
use Rattle.pk_parse.proofs.enumerations.enumerator_end.Goals as goal

pub returns-in-Some : goal.returns-in-Some
returns-in-Some c = let a = shorter fixed.CloseBrace _ _ _ c.in-Some.ensures in (ends_last _ _ _ _ c.in-Some.ensures, λ e. absurd (cc), omega arith)

pub returns-in_err-next : goal.returns-in_err-next
returns-in_err-next c = passed _ _ c.from_residual.result _ c.from_residual.ensures.1 (stops_end _ _ _ c.in_default.ensures c.in_err-next.ensures)

pub returns-in-Some-take : goal.returns-in-Some-take
returns-in-Some-take c =
    let a = shorter fixed.Comma _ _ _ c.in_ok-next.ensures in
    let b = shorter fixed.CloseBrace _ _ _ c.in-Some-take.ensures in
    (ends_comma _ _ _ _ _ _ c.in_ok-next.ensures c.in-Some-take.ensures, λ e. absurd (cc), omega arith)

pub returns : goal.returns
returns c = let a = shorter fixed.Comma _ _ _ c.in_ok-next.ensures in (ends_next _ _ _ _ c.in_ok-next.ensures, λ e. c.in_default-take.ensures, omega arith)
