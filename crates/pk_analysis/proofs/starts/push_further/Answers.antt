use Rattle.pk_graph.specs.Graphs.{variable_view}
use Rattle.pk_analysis.proofs.StartLemmas.{numbers_more}
use Rattle.pk_analysis.proofs.starts.push_further.Goals as goal

pub loop-i-preserved : goal.loop-i-preserved
loop-i-preserved c =
    numbers_more (variable_view c.args.variable.now) c.loop-i.i c.args.values.now.items c.loop-i.values.items c.push.new.self.items c.number_known.result c.loop-i.invariant c.number_known.ensures.value c.number_known.ensures.inside
    c.in_ok-push.ensures.items
