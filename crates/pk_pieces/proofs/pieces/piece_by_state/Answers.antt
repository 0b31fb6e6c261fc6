use Rattle.pk_graph.specs.AccessViews.{access_views}
use Rattle.pk_graph.specs.Shown.{graph_view}
use Rattle.pk_pieces.proofs.Told.{slots_there, typed_there}
use Rattle.pk_pieces.proofs.pieces.piece_by_state.Goals as goal

pub lines_of-requires-clause-slots : goal.lines_of-requires-clause-slots
lines_of-requires-clause-slots c = slots_there (graph_view c.args.graph.now) c.args.state.now.layout c.requires.over c.graphs_law.ensures

pub verdicts_on-requires : goal.verdicts_on-requires
verdicts_on-requires c =
    typed_there (graph_view c.args.graph.now) c.args.state.now.layout c.requires.over c.accesses_law.ensures c.well_made.ensures c.args.point (access_views c.args.accesses.now) c.requires.accesses
