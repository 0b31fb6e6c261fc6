use Rattle.std.proofs.Common.{ap, subst, sym, ◌∙◌, ℕ, IfSome}
use Rattle.pk_ctypes.specs.declared.types.IntType.{IntType}
use Rattle.pk_ctypes.specs.Types.{InType}
use Rattle.pk_ctypes.specs.Operators.{HasRight}
use Rattle.pk_graph.specs.Trees.{TreeOf}
use Rattle.pk_graph.specs.Views.{tree_view}
use Rattle.pk_draft.specs.Folding as folding
use Rattle.pk_draft.proofs.FoldingLemmas.{of_conversion, of_right, made}
use Rattle.pk_draft.proofs.folding.operated_tree.Goals as goal

pub binary_tree-requires-clause-left : goal.binary_tree-requires-clause-left
binary_tree-requires-clause-left c =
    subst (λ (e : TreeOf ℕ). IfSome (folding.number_in e) (InType c.args.int_type)) (sym (made c.boxed_conversion-a.result c.in_ok-a.a _ c.boxed_conversion-a.ensures c.in_ok-a.ensures.first)) (of_conversion c.args.u c.args.int_type (tree_view c.args.left.value))

pub binary_tree-requires-clause-right : goal.binary_tree-requires-clause-right
binary_tree-requires-clause-right c =
    subst (λ (e : TreeOf ℕ). IfSome (folding.number_in e) (HasRight c.args.op c.args.int_type))
    (sym (made c.boxed_conversion-b.result c.in_ok-a.b _ c.boxed_conversion-b.ensures c.in_ok-a.ensures.second ∙ ap (λ (t : IntType). folding.conversion c.args.v t (tree_view c.args.right.value)) c.right_type.ensures))
    (of_right c.args.op c.args.v c.args.int_type (tree_view c.args.right.value))

pub returns : goal.returns
returns c =
    c.binary_tree.ensures ∙ (ap (λ (a : TreeOf ℕ). folding.binary_tree c.args.op c.args.site c.args.int_type a (tree_view c.in_ok-a.b.value)) (made c.boxed_conversion-a.result c.in_ok-a.a _ c.boxed_conversion-a.ensures c.in_ok-a.ensures.first)
    ∙ ap (folding.binary_tree c.args.op c.args.site c.args.int_type (folding.conversion c.args.u c.args.int_type (tree_view c.args.left.value)))
    (made c.boxed_conversion-b.result c.in_ok-a.b _ c.boxed_conversion-b.ensures c.in_ok-a.ensures.second ∙ ap (λ (t : IntType). folding.conversion c.args.v t (tree_view c.args.right.value)) c.right_type.ensures))
