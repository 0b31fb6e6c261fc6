use Rattle.std.proofs.Common.{ap, ◌∙◌}
use Rattle.pk_graph.specs.Shown.{graph_view}
use Rattle.pk_state.specs.Facts.{Stated}
use Rattle.pk_report.specs.Reports.{state_at}
use Rattle.pk_pieces.specs.Joined.{piece_by}
use Rattle.pk_graph_report.proofs.PointByPoint.{over_there, state_so}
use Rattle.pk_graph_report.proofs.pieces.piece_at.Goals as goal

pub piece_by_state-requires-clause-over : goal.piece_by_state-requires-clause-over
piece_by_state-requires-clause-over c =
    over_there (graph_view c.args.graph.now) c.args.states.now c.args.point c.in_ok-state.state c.requires.over c.requires.point
    (state_so c.args.states.now c.args.point c.in_ok-state.state c.in_ok-state.ensures)

pub returns : goal.returns
returns c =
    c.in_ok-piece.ensures
    ∙ ap (λ (s : Stated). piece_by c.args.all (graph_view c.args.graph.now) c.args.is_head s c.args.point)
    (state_so c.args.states.now c.args.point c.in_ok-state.state c.in_ok-state.ensures)

pub returns-in-Some : goal.returns-in-Some
returns-in-Some c = c.in-Some.ensures.piece (graph_view c.args.graph.now) (state_at c.args.states.now c.args.point) c.accesses_at-own.ensures
