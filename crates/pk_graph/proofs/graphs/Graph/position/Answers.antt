use Rattle.std.proofs.Common.{ap, sym}
use Rattle.pk_graph.specs.Graphs.{PointOf, point_view}
use Rattle.pk_graph.proofs.PointLemmas.{point_shown}
use Rattle.pk_graph.proofs.graphs.Graph.position.Goals as goal

pub returns : goal.returns
unfolding point_view
returns c = sym (ap (λ (p : PointOf). p.at) (point_shown c.args.self.now.scopes.items c.args.self.now.points.items c.args.point c.index.result.now c.requires c.index.ensures))
