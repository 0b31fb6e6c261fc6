use Rattle.pk_order_laws.proofs.Nesting.{every_digraph_has_a_nest}
use Rattle.pk_order_laws.proofs.laws.every_digraph_has_a_nest.Goals as goal

pub returns : goal.returns
returns c = every_digraph_has_a_nest
