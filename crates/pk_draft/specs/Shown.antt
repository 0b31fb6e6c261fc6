-- The draft that a value of the code stands for.
use Rattle.std.specs.Prelude.{ℕ, map}
use Rattle.pk_graph.specs.Graphs.{variable_view}
use Rattle.pk_draft.specs.declared.drafts.Draft.{Draft}
use Rattle.pk_draft.specs.Drafts.{by_number, DraftOf}
use Rattle.pk_draft.specs.Answers.{edge_view}

unfoldable pub drafted : Draft → DraftOf ℕ
drafted d = record {
  names = by_number;
  point = d.point;
  here = d.here;
  points = d.points;
  variables = d.variables;
  labels = d.labels.items;
  made = map variable_view d.made.items;
  objects = d.objects.items;
  regions = d.regions.items;
  scopes = d.scopes.items;
  edges = map edge_view d.edges.items;
}
