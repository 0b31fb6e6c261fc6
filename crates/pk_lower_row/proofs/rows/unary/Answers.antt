use Rattle.std.proofs.Common.{subst, sym, ℕ, IfSome}
use Rattle.pk_ctypes.specs.Types.{InType}
use Rattle.pk_graph.specs.Trees.{TreeOf}
use Rattle.pk_draft.specs.Folding as folding
use Rattle.pk_draft.proofs.FoldingLemmas.{of_conversion}
use Rattle.pk_graph.specs.Views.{tree_view}
use Rattle.pk_lower_row.proofs.rows.unary.Goals as goal

pub unary_tree-requires : goal.unary_tree-requires
unary_tree-requires c =
    subst (λ (e : TreeOf ℕ). IfSome (folding.number_in e) (InType c.args.int_type)) (sym c.in_ok-operand.ensures) (of_conversion c.args.from c.args.int_type (tree_view c.args.operand.value))
