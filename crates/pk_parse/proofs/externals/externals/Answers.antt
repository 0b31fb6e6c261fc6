use Rattle.std.proofs.Common.{sym, ap, ◌∙◌}
use Rattle.pk_grammar.specs.declared.signs.Fixed.TheVariants as fixed
use Rattle.pk_grammar.specs.Machine.Signs.{is_fixed}
use Rattle.pk_parse_expression.proofs.RunLemmas.{passed, fails_as}
use Rattle.pk_parse.proofs.RunExternals.{run_end}
use Rattle.pk_parse.proofs.externals.externals.Goals as goal

pub returns-then-is : goal.returns-then-is
returns-then-is c = c.loop-rest.invariant ∙ run_end _ _ _ (sym (c.is.ensures ∙ ap (is_fixed fixed.End) c.kind.ensures) ∙ c.if-is.true)

pub returns-in_err-external : goal.returns-in_err-external
returns-in_err-external c =
    passed _ _ c.from_residual.result _ c.from_residual.ensures.1 (fails_as _ _ _ c.loop-rest.invariant (c.in_err-external.ensures _))
