use Rattle.std.proofs.Common.{Bool, ◌&&◌, ap, sym}
use Rattle.pk_graph.specs.Graphs.{edge_view}
use Rattle.pk_graph.specs.OctagonVariables.{is_asked_by}
use Rattle.pk_packs.proofs.MarkLemmas.{marked_none, marked_same}
use Rattle.pk_packs.proofs.marks.mark_taken.Goals as goal

pub returns-then-is_taken : goal.returns-then-is_taken
unfolding edge_view
returns-then-is_taken c =
    let e = c.args.edge.now in
    marked_same (λ x. is_asked_by x (edge_view e).instr) (λ x. c.args.is_taken && is_asked_by x (edge_view e).instr) c.args.marks.now c.mark_instr.new.marks
    (λ x. ap (λ (b : Bool). b && is_asked_by x (edge_view e).instr) (sym c.if-is_taken.true)) c.mark_instr.ensures

pub returns-else-is_taken : goal.returns-else-is_taken
returns-else-is_taken c =
    marked_none (λ x. c.args.is_taken && is_asked_by x (edge_view c.args.edge.now).instr) c.args.marks.now
    (λ x. ap (λ (b : Bool). b && is_asked_by x (edge_view c.args.edge.now).instr) c.if-is_taken.false)
