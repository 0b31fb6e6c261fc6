use Rattle.std.proofs.Common.{refl, false}
use Rattle.pk_graph.specs.Views.{tree_view}
use Rattle.pk_graph.specs.OctagonVariables.{occurs}
use Rattle.pk_packs.proofs.MarkLemmas.{marked_none, marked_both, marked_one, marked_far}
use Rattle.pk_packs.proofs.marks.+mark_tree.Goals as goal

pub returns-in-Constant : goal.returns-in-Constant
unfolding tree_view occurs
returns-in-Constant t c = rw c.in-Constant.is (marked_none (λ x. false) c.args.marks.now (λ x. refl))

pub returns-then-variable-marks : goal.returns-then-variable-marks
unfolding tree_view occurs
returns-then-variable-marks t c = rw c.in-Variable.is (marked_one c.args.marks.now c.in-Variable.variable c.if-variable-marks.true)

pub returns-else-variable-marks : goal.returns-else-variable-marks
unfolding tree_view occurs
returns-else-variable-marks t c = rw c.in-Variable.is (marked_far c.args.marks.now c.in-Variable.variable c.if-variable-marks.false)

pub returns-in-Converted : goal.returns-in-Converted
unfolding tree_view occurs
returns-in-Converted t c = rw (c.in-Converted.is, ← c.deref.ensures) c.mark_tree.ensures

pub returns-in-Unary : goal.returns-in-Unary
unfolding tree_view occurs
returns-in-Unary t c = rw (c.in-Unary.is, ← c.deref-in-Unary.ensures) c.mark_tree-in-Unary.ensures

pub returns-in-Binary : goal.returns-in-Binary
unfolding tree_view occurs
returns-in-Binary t c =
    rw (c.in-Binary.is, ← c.deref-in-Binary.ensures, ← c.deref-in-Binary-2.ensures)
    (marked_both _ _ c.args.marks.now c.mark_tree-in-Binary.new.marks c.mark_tree-in-Binary-2.new.marks c.mark_tree-in-Binary.ensures c.mark_tree-in-Binary-2.ensures)
