use Rattle.std.proofs.Common.{refl, ◌∙◌, arith}
use Rattle.pk_ast.specs.Trees.{no_items}
use Rattle.pk_grammar.specs.declared.signs.Fixed.TheVariants as fixed
use Rattle.pk_grammar.specs.Machine.States.{function_block}
use Rattle.pk_parse_expression.proofs.RunLemmas.{passed, fails_as, fails_syntax}
use Rattle.pk_parse.proofs.DeclarationLemmas.{shorter}
use Rattle.pk_parse.proofs.RunExternals.{run_prototype, run_body, no_body}
use Rattle.pk_parse.proofs.externals.body.Goals as goal

pub returns-in-Some : goal.returns-in-Some
returns-in-Some c =
    let a = shorter fixed.Semicolon _ _ _ c.in-Some.ensures in
    (λ h ps. run_prototype _ h ps _ _ _ c.in-Some.ensures, omega arith)

pub returns-in_err-open : goal.returns-in_err-open
returns-in_err-open c =
    let e = c.in_err-open.ensures in
    passed _ _ c.from_residual.result _ c.from_residual.ensures.1 (λ h ps. fails_syntax _ _ _ e.1 (no_body _ h ps _ c.in_default.ensures e.0))

pub returns-in_err-block : goal.returns-in_err-block
returns-in_err-block c =
    passed _ _ c.from_residual-in_err-block.result _ c.from_residual-in_err-block.ensures.1
    (λ h ps. fails_as _ _ _ (run_body _ h ps _ _ _ c.in_ok-open.ensures) (c.in_err-block.ensures (function_block h ps c.in_ok-open.open.at no_items) (refl, refl, refl)))

pub returns : goal.returns
returns c =
    let r = c.in_ok-block.ensures in
    let a = shorter fixed.OpenBrace _ _ _ c.in_ok-open.ensures in
    let h = r.1 in
    (λ h ps. run_body _ h ps _ _ _ c.in_ok-open.ensures ∙ r.0 (function_block h ps c.in_ok-open.open.at no_items) (refl, refl, refl), omega arith)
