use Rattle.std.proofs.Common.{subst}
use Rattle.std.proofs.lemmas.Bool.Decides.{same_from_decides}
use Rattle.pk_analysis.specs.Orders.{is_below}
use Rattle.pk_state.specs.Layouts.{Layout}
use Rattle.pk_state.specs.Facts.{AreFactsIf}
use Rattle.pk_analysis.proofs.OrderLemmas.{below_decides}
use Rattle.pk_analysis.proofs.flow.FlowEquate.leq.Goals as goal

pub returns : goal.returns
returns c =
    let l = c.args.self.now.layout in
    let new = subst (λ (y : Layout). AreFactsIf y c.args.new.now.facts) c.requires.2 c.is_stated.ensures.facts in
    let old = subst (λ (y : Layout). AreFactsIf y c.args.old.now.facts) c.requires.1 c.is_stated-2.ensures.facts in
    same_from_decides c.leq.result (is_below c.args.new.now.facts c.args.old.now.facts) c.leq.ensures (below_decides l c.args.new.now.facts c.args.old.now.facts new old)
