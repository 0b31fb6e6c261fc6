use Rattle.std.proofs.Common.{sym, subst}
use Rattle.pk_graph.specs.Graphs.{GraphOf}
use Rattle.pk_welltyped.specs.Marks.{AreMarked}
use Rattle.pk_loop_heads.specs.Laws.{IsHeadIfTurned}
use Rattle.pk_loop_heads_texts.proofs.laws.turns_of_texts_are_heads.Goals as goal

pub returns : goal.returns
returns c = λ text entry g h path at t plain told.
    let typed = h.called.typed in
    let unit = c.texts_are_well_typed.ensures text h.unit typed in
    let marked = subst AreMarked (sym typed.unit) (c.units_are_marked.ensures text typed.all typed.accepted) in
    let head = c.loops_have_heads.ensures h.unit entry h.paths unit marked h.called.called.0 path at plain in
    let one = c.turns_of_texts_are_apart.ensures text entry g h path at head.0 t head.1 told in
    subst (λ (x : GraphOf). IsHeadIfTurned x t) (sym h.graph) (subst (IsHeadIfTurned _) one head.2)
