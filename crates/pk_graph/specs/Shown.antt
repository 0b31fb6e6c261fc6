-- The graph that a value of the code stands for.
use Rattle.pk_graph.specs.declared.graphs.Graph.{Graph}
use Rattle.pk_graph.specs.Graphs.{GraphOf, graph_of}

abbrev pub graph_view : Graph → GraphOf
graph_view g = graph_of g.paths.items g.variables.items g.scopes.items g.points.items
