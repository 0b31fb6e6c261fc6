use Rattle.std.proofs.Common.{◌≡◌, ap, sym, ◌∙◌, subst, IfOk, List}
use Rattle.pk_graph.specs.Graphs.{PointOf, point_view, scope_at}
use Rattle.pk_graph.specs.declared.graphs.Entry.{Entry}
use Rattle.pk_graph.specs.declared.graphs.Scope.{Scope}
use Rattle.pk_graph.proofs.PointLemmas.{point_shown}
use Rattle.pk_graph.proofs.graphs.Graph.scope.Goals as goal

pub returns : goal.returns
unfolding point_view
returns c =
    subst (λ (xs : List Entry). IfOk c.in_scope.result (λ list. list.items ≡ xs))
    (ap (λ (ss : List Scope). scope_at ss c.index.result.now.scope) c.deref.ensures.value
    ∙ sym (ap (λ (p : PointOf). p.scope) (point_shown c.args.self.now.scopes.items c.args.self.now.points.items c.args.point c.index.result.now c.requires c.index.ensures)))
    c.in_scope.ensures
