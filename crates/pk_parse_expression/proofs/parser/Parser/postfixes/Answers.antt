use Rattle.std.proofs.Common.{◌+◌, length, sym, ap, ◌∙◌, arith}
use Rattle.pk_ast.specs.Trees.{postfix}
use Rattle.pk_ast.specs.Views.{expression_tree}
use Rattle.pk_grammar.specs.Grammar.{operators_in, postfixes_in, commas_in}
use Rattle.pk_grammar.specs.Machine.States.{complete}
use Rattle.pk_grammar.specs.Machine.Running.{run}
use Rattle.pk_parse_expression.proofs.KeptLemmas.{made, not_made}
use Rattle.pk_parse_expression.proofs.RunLemmas.{passed, fails_nesting}
use Rattle.pk_parse_expression.proofs.RunOperators.{run_postfix, deep_postfix}
use Rattle.pk_parse_expression.proofs.parser.Parser.postfixes.Goals as goal

pub returns-in_err-operand : goal.returns-in_err-operand
returns-in_err-operand c =
    let i = c.loop-op.invariant in
    let n = not_made _ _ _ _ c.nested.ensures c.in_err-operand.ensures in
    passed _ _ c.from_residual.result _ c.from_residual.ensures.1 (λ k h.
    fails_nesting _ _ _ n.0 (i.0 k h ∙ deep_postfix c.args.self.end c.args.outside (expression_tree c.loop-op.whole) k _ _ _ _ c.in-Some.ensures (let p = i.1 in let g = n.1 in omega arith)))

pub loop-op-preserved : goal.loop-op-preserved
loop-op-preserved c =
    let i = c.loop-op.invariant in
    let n = made _ _ _ _ c.nested.ensures c.in_ok-operand.ensures.0 in
    let w = c.in_ok-whole.ensures ∙ ap (λ e. postfix c.in-Some.op c.in-Some.at (expression_tree e)) c.in_ok-operand.ensures.1 in (
      λ k h.
          i.0 k h
          ∙ run_postfix c.args.self.end c.args.outside (expression_tree c.loop-op.whole) k _ _ _ _ c.in-Some.ensures (let p = i.1 in let g = n.0 in let f = n.1 in omega arith)
          ∙ ap (λ e. run c.args.self.end (complete c.args.outside e k) c.in-Some.after.now) (sym w),
      ap postfixes_in w ∙ ap (λ k. k + 1) i.1,
      ap operators_in w,
      ap commas_in w,
      (let g = n.0 in let f = n.1 in omega arith),
      (let g = i.5 in omega (arith, ap length c.in-Some.ensures.cut)),
    )
