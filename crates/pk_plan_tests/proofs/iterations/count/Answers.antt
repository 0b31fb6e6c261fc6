use Rattle.pk_plan_tests.specs.Counting_laws.{counting_reads}
use Rattle.pk_plan_tests.proofs.iterations.count.Goals as goal

pub iterate-requires-clause-reads : goal.iterate-requires-clause-reads
iterate-requires-clause-reads c κs = rw c.in_ok-order.ensures counting_reads
