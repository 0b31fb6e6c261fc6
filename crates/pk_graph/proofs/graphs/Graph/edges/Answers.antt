use Rattle.std.proofs.Common.{ap, sym, ◌∙◌, map}
use Rattle.pk_graph.specs.Graphs.{PointOf, edge_view, point_view}
use Rattle.pk_graph.proofs.PointLemmas.{point_shown}
use Rattle.pk_graph.proofs.graphs.Graph.edges.Goals as goal

pub returns : goal.returns
unfolding point_view
returns c = ap (λ (es : _). map edge_view es) c.deref.ensures.value ∙ sym (ap (λ (p : PointOf). p.edges) (point_shown c.args.self.now.scopes.items c.args.self.now.points.items c.args.point c.index.result.now c.requires c.index.ensures))
