use Rattle.std.proofs.Common.{arith, ◌∙◌}
use Rattle.pk_wpo.proofs.Steps.{ends_more, ends_end}
use Rattle.pk_wpo.proofs.constraints.add_end_constraints.Goals as goal

pub loop-e-preserved : goal.loop-e-preserved
loop-e-preserved c = record {
  long = c.in_ok-add_if_none.ensures.as_many ∙ c.loop-e.invariant.long;
  ends = ends_more c.args.end c.args.constraints.now c.loop-e.constraints c.add_if_none.new.constraints c.loop-e.e c.in_ok-add_if_none.ensures.edges c.loop-e.invariant.ends;
}

pub returns-clause-edges : goal.returns-clause-edges
returns-clause-edges c = ends_end c.args.end c.args.constraints.now c.loop-e.constraints c.loop-e.e (omega arith) c.loop-e.invariant.ends
