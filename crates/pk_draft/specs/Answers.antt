-- The edge that a value of the code stands for.
use Rattle.std.specs.Prelude.{ℕ}
use Rattle.pk_graph.specs.Views.{instr_view}
use Rattle.pk_draft.specs.declared.drafts.DraftEdge.{DraftEdge}
use Rattle.pk_draft.specs.Drafts.{EdgeFrom}

unfoldable pub edge_view : DraftEdge → EdgeFrom ℕ
edge_view e = record { from = e.from; instr = instr_view e.instr; to = e.to }
