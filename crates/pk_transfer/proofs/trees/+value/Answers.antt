use Rattle.std.proofs.Common.{sym, subst}
use Rattle.std.specs.Prelude.{IfSome}
use Rattle.pk_ctypes.specs.Operators.{result_type}
use Rattle.pk_graph.specs.declared.trees.Tree.{Tree}
use Rattle.pk_graph.specs.Trees.{unary, binary}
use Rattle.pk_graph.specs.Kinds.{IsTyped, type_of}
use Rattle.pk_graph.specs.Views.{tree_view}
use Rattle.pk_octagons.specs.Values.{IsValue}
use Rattle.pk_transfer.specs.Trees.{kinds_of}
use Rattle.pk_transfer.proofs.Told.{unary_right, left_in, binary_right, value_from}
use Rattle.pk_transfer.proofs.trees.+value.Goals as goal

pub operate-requires-clause-right : goal.operate-requires-clause-right
unfolding tree_view
operate-requires-clause-right t c =
    let ks = kinds_of c.args.state.now.layout in
    let u = c.in-Unary in
    let typed : IsTyped ks (unary u.op u.field-1 u.t (tree_view u.e.value)) = subst (λ (e : Tree). IsTyped ks (tree_view e)) u.is c.requires in
    unary_right ks u.op u.field-1 u.t (tree_view u.e.value) c.in-Some-value.known typed (rw c.deref-in-Unary.ensures at c.in-Some-value.ensures.inside)

pub operate-requires-in-Some-value-3-clause-left : goal.operate-requires-in-Some-value-3-clause-left
unfolding tree_view
operate-requires-in-Some-value-3-clause-left t c =
    let ks = kinds_of c.args.state.now.layout in
    let u = c.in-Binary in
    let typed : IsTyped ks (binary u.operator u.site u.int_type (tree_view u.left.value) (tree_view u.right.value)) = subst (λ (e : Tree). IsTyped ks (tree_view e)) u.is c.requires in
    left_in ks u.operator u.site u.int_type (tree_view u.left.value) (tree_view u.right.value) c.in-Some-value-2.a typed (rw c.deref-in-Binary.ensures at c.in-Some-value-2.ensures.inside)

pub operate-requires-in-Some-value-3-clause-right : goal.operate-requires-in-Some-value-3-clause-right
unfolding tree_view
operate-requires-in-Some-value-3-clause-right t c =
    let ks = kinds_of c.args.state.now.layout in
    let u = c.in-Binary in
    let typed : IsTyped ks (binary u.operator u.site u.int_type (tree_view u.left.value) (tree_view u.right.value)) = subst (λ (e : Tree). IsTyped ks (tree_view e)) u.is c.requires in
    binary_right ks u.operator u.site u.int_type (tree_view u.left.value) (tree_view u.right.value) c.in-Some-value-3.b typed (rw c.deref-in-Some-value-2.ensures at c.in-Some-value-3.ensures.inside)

pub returns-in-Some-clause-inside : goal.returns-in-Some-clause-inside
unfolding tree_view
returns-in-Some-clause-inside t c =
    let ks = kinds_of c.args.state.now.layout in
    let r = c.convert in
    subst (λ (e : Tree). IfSome r.result (IsValue (type_of ks (tree_view e)))) (sym c.in-Converted.is) (value_from c.in-Converted.t r.result r.ensures.inside r.ensures.class r.ensures.some)

pub returns-in-Some-value-clause-inside : goal.returns-in-Some-value-clause-inside
unfolding tree_view
returns-in-Some-value-clause-inside t c =
    let ks = kinds_of c.args.state.now.layout in
    let r = c.operate in
    subst (λ (e : Tree). IfSome r.result (IsValue (type_of ks (tree_view e)))) (sym c.in-Unary.is) (value_from (result_type c.in-Unary.op c.in-Unary.t) r.result r.ensures.inside r.ensures.class r.ensures.some)

pub returns-in-Some-value-3-clause-inside : goal.returns-in-Some-value-3-clause-inside
unfolding tree_view
returns-in-Some-value-3-clause-inside t c =
    let ks = kinds_of c.args.state.now.layout in
    let r = c.operate-in-Some-value-3 in
    subst (λ (e : Tree). IfSome r.result (IsValue (type_of ks (tree_view e)))) (sym c.in-Binary.is) (value_from (result_type c.in-Binary.operator c.in-Binary.int_type) r.result r.ensures.inside r.ensures.class r.ensures.some)
