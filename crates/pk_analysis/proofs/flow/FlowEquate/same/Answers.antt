use Rattle.std.proofs.lemmas.Bool.Decides.{same_from_decides}
use Rattle.pk_analysis.specs.Orders.{is_same}
use Rattle.pk_analysis.proofs.OrderLemmas.{same_decides}
use Rattle.pk_analysis.proofs.flow.FlowEquate.same.Goals as goal

pub returns : goal.returns
returns c = same_from_decides c.equals.result (is_same c.args.a.now.facts c.args.b.now.facts) c.equals.ensures (same_decides c.args.a.now.facts c.args.b.now.facts)
