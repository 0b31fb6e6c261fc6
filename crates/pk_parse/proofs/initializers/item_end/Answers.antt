use Rattle.std.proofs.Common.{inl, inr, refl, arith}
use Rattle.pk_grammar.specs.declared.signs.Fixed.TheVariants as fixed
use Rattle.pk_parse_expression.proofs.RunLemmas.{passed}
use Rattle.pk_parse.proofs.DeclarationLemmas.{shorter}
use Rattle.pk_parse.proofs.initializers.item_end.Goals as goal

pub returns-in-Some : goal.returns-in-Some
returns-in-Some c =
    let a = shorter fixed.CloseBrace _ _ _ c.in-Some.ensures in
    (record { before = c.args.tokens.now; comma = inl refl; brace = _; closes = c.in-Some.ensures }, omega arith)

pub returns-in_err-next : goal.returns-in_err-next
returns-in_err-next c = let f = c.in_err-next.ensures in passed _ _ c.from_residual.result _ c.from_residual.ensures.1 (c.in_default.ensures, f.0, f.1)

pub returns-in-Some-take : goal.returns-in-Some-take
returns-in-Some-take c =
    let a = shorter fixed.Comma _ _ _ c.in_ok-next.ensures in
    let b = shorter fixed.CloseBrace _ _ _ c.in-Some-take.ensures in
    (record { before = c.in_ok-next.next.now; comma = inr (_, c.in_ok-next.ensures); brace = _; closes = c.in-Some-take.ensures }, omega arith)

pub returns : goal.returns
returns c =
    let a = shorter fixed.Comma _ _ _ c.in_ok-next.ensures in
    (record { comma = _; begins = c.in_ok-next.ensures; no_end = c.in_default-take.ensures }, omega arith)
