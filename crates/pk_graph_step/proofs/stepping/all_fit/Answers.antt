use Rattle.std.proofs.Common.{◌∙◌, sym}
use Rattle.pk_graph.proofs.ChosenLemmas.{fit_next, fit_not, fit_end}
use Rattle.pk_graph_step.proofs.stepping.all_fit.Goals as goal

pub returns-then-not-fit : goal.returns-then-not-fit
returns-then-not-fit c = fit_not c.args.int_type c.args.numbers.now c.loop-k.k _ c.loop-k-test.true (sym c.fit.ensures ∙ c.if-not-fit.true) c.loop-k.invariant

pub loop-k-preserved : goal.loop-k-preserved
loop-k-preserved c = fit_next c.args.int_type c.args.numbers.now c.loop-k.k _ c.loop-k-test.true (sym c.fit.ensures ∙ c.if-not-fit.false) c.loop-k.invariant

pub returns : goal.returns
returns c = fit_end c.args.int_type c.args.numbers.now c.loop-k.k c.loop-k-test.false c.loop-k.invariant
