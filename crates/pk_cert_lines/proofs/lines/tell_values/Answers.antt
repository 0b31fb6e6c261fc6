use Rattle.std.proofs.Common.{sym, subst, arith, length}
use Rattle.pk_state.specs.Layouts.{Layout}
use Rattle.pk_state.specs.Facts.{AreFactsIf}
use Rattle.pk_cert_lines.proofs.Telling.{values_same}
use Rattle.pk_cert_lines.proofs.lines.tell_values.Goals as goal

pub returns-clause-values : goal.returns-clause-values
returns-clause-values c = λ e.
    let l = c.args.frame.now in
    let told = subst (λ (y : Layout). AreFactsIf y c.loop-k.told.state.facts) c.loop-k.invariant.0.told.layout c.is_stated-2.ensures.facts in
    let now = subst (λ (y : Layout). AreFactsIf y c.args.state.now.facts) c.requires.state c.is_stated.ensures.facts in
    sym (values_same l c.loop-k.told.state.facts c.args.state.now.facts (length c.args.order.now) told now c.loop-k.invariant.0.some c.requires.some (sym c.requires.many)
    (λ y p. c.loop-k.invariant.1 y (omega (arith, p, c.loop-k-test.false, c.loop-k.auto.k-end)) p))
