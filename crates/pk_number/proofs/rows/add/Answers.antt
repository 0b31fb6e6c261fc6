use Rattle.std.proofs.Common.{refl}
use Rattle.pk_graph.specs.Graphs.{edge_view}
use Rattle.pk_draft.specs.Answers as drafts
use Rattle.pk_number.specs.Rows.{rows_view}
use Rattle.pk_number.proofs.RowLemmas.{edge_dropped, edge_added}
use Rattle.pk_number.proofs.rows.add.Goals as goal

pub returns-then-edge-eq-NOWHERE : goal.returns-then-edge-eq-NOWHERE
unfolding drafts.edge_view
returns-then-edge-eq-NOWHERE c = edge_dropped (rows_view c.args.rows.now) (drafts.edge_view c.args.edge) c.if-edge-eq-NOWHERE.true

pub returns : goal.returns
unfolding drafts.edge_view edge_view
returns c = edge_added c.args.rows.now (drafts.edge_view c.args.edge) _ c.push.new.row _ c.if-edge-eq-NOWHERE.false c.requires c.in_ok-push.ensures refl
