use Rattle.std.proofs.Common.{refl, ap, sym, ◌∙◌, arith}
use Rattle.pk_grammar.specs.Machine.Signs.{is_fixed}
use Rattle.pk_parse_expression.proofs.RunLemmas.{passed}
use Rattle.pk_parse.proofs.statements.optional.Goals as goal

pub returns-then-is : goal.returns-then-is
returns-then-is c = ((refl, ap (λ k. is_fixed c.args.close k) (sym c.kind.ensures) ∙ sym c.is.ensures ∙ c.if-is.true), omega arith)

pub returns-in_err-whole : goal.returns-in_err-whole
returns-in_err-whole c =
    passed _ _ c.from_residual.result _ c.from_residual.ensures.1
    (ap (λ k. is_fixed c.args.close k) (sym c.kind.ensures) ∙ sym c.is.ensures ∙ c.if-is.false, c.in_err-whole.ensures)

pub returns : goal.returns
returns c =
    let w = c.in_ok-whole.ensures in
    ((ap (λ k. is_fixed c.args.close k) (sym c.kind.ensures) ∙ sym c.is.ensures ∙ c.if-is.false, w.0, w.1), w.2)
