use Rattle.std.proofs.Common.{◌≡◌, ap, sym, ◌∙◌, subst, Ok}
use Rattle.std.specs.Prelude.{ℤ}
use Rattle.pk_ctypes.specs.Types.{InType}
use Rattle.pk_ctypes.specs.Operators.{HasRight}
use Rattle.pk_graph.specs.declared.trees.Tree.{Tree}
use Rattle.pk_graph.specs.Views.{tree_view}
use Rattle.pk_graph.specs.Trees.{unary, binary}
use Rattle.pk_graph.specs.Kinds.{Kinds, IsTyped, type_of}
use Rattle.pk_graph.specs.Graphs.{kinds_of}
use Rattle.pk_graph.specs.Shown.{graph_view}
use Rattle.pk_graph.specs.Steps.{tree_value}
use Rattle.pk_graph.specs.Stores.{storing}
use Rattle.pk_graph_step.specs.GraphSteps.{value_view}
use Rattle.pk_graph_step.proofs.TypedLemmas.{typed_value, binary_right, word_is}
use Rattle.pk_graph_step.proofs.values.+value.Goals as goal

pub operated-requires-clause-left : goal.operated-requires-clause-left
unfolding tree_view
operated-requires-clause-left t c =
    let ks : Kinds = kinds_of (graph_view c.args.graph.now) in
    let u = c.in-Unary in
    let typed : IsTyped ks (unary u.operator u.site u.int_type (tree_view u.operand.value)) = subst (λ (e : Tree). IsTyped ks (tree_view e)) u.is c.requires.typed in
    let is : tree_value storing (tree_view u.operand.value) c.args.store.now ≡ Ok c.in-Ok-value.a =
    ap (λ (e : Tree). tree_value storing (tree_view e) c.args.store.now) (sym c.deref-in-Unary.ensures) ∙ sym c.value-in-Unary.ensures ∙ ap value_view c.in-Ok-value.is in
    let inside = typed_value c.value_law.ensures ks c.args.store.now (tree_view u.operand.value) c.in-Ok-value.a c.requires.store typed.1 is in
    subst (λ (z : ℤ). InType u.int_type z) (sym (word_is (type_of ks (tree_view u.operand.value)) c.in-Ok-value.a inside)) (typed.2 c.in-Ok-value.a inside)

pub operated-requires-in-Ok-value-3-clause-left : goal.operated-requires-in-Ok-value-3-clause-left
unfolding tree_view
operated-requires-in-Ok-value-3-clause-left t c =
    let ks : Kinds = kinds_of (graph_view c.args.graph.now) in
    let u = c.in-Binary in
    let typed : IsTyped ks (binary u.operator u.site u.int_type (tree_view u.left.value) (tree_view u.right.value)) = subst (λ (e : Tree). IsTyped ks (tree_view e)) u.is c.requires.typed in
    let is : tree_value storing (tree_view u.left.value) c.args.store.now ≡ Ok c.in-Ok-value-2.a =
    ap (λ (e : Tree). tree_value storing (tree_view e) c.args.store.now) (sym c.deref-in-Binary.ensures) ∙ sym c.value-in-Binary.ensures ∙ ap value_view c.in-Ok-value-2.is in
    let inside = typed_value c.value_law.ensures ks c.args.store.now (tree_view u.left.value) c.in-Ok-value-2.a c.requires.store typed.0 is in
    subst (λ (z : ℤ). InType u.int_type z) (sym (word_is (type_of ks (tree_view u.left.value)) c.in-Ok-value-2.a inside)) (typed.2 c.in-Ok-value-2.a inside)

pub operated-requires-in-Ok-value-3-clause-right : goal.operated-requires-in-Ok-value-3-clause-right
unfolding tree_view
operated-requires-in-Ok-value-3-clause-right t c =
    let ks : Kinds = kinds_of (graph_view c.args.graph.now) in
    let u = c.in-Binary in
    let typed : IsTyped ks (binary u.operator u.site u.int_type (tree_view u.left.value) (tree_view u.right.value)) = subst (λ (e : Tree). IsTyped ks (tree_view e)) u.is c.requires.typed in
    let is : tree_value storing (tree_view u.right.value) c.args.store.now ≡ Ok c.in-Ok-value-3.b =
    ap (λ (e : Tree). tree_value storing (tree_view e) c.args.store.now) (sym c.deref-in-Ok-value-2.ensures) ∙ sym c.value-in-Ok-value-2.ensures ∙ ap value_view c.in-Ok-value-3.is in
    let inside = typed_value c.value_law.ensures ks c.args.store.now (tree_view u.right.value) c.in-Ok-value-3.b c.requires.store typed.1 is in
    subst (λ (z : ℤ). HasRight u.operator u.int_type z) (sym (word_is (type_of ks (tree_view u.right.value)) c.in-Ok-value-3.b inside))
    (binary_right u.operator u.int_type (type_of ks (tree_view u.right.value)) c.in-Ok-value-3.b typed.3 inside)
