-- Blocks, `for` and `switch`, step by step.
use Rattle.std.proofs.Common.{◌≡◌, ◌+◌, ◌<◌, Bool, List, [], ◌∷◌, ◌++◌, Option, Some, None, length, length-append, refl, ap, sym, ◌∙◌, arith}
use Rattle.pk_ctypes.specs.declared.places.Pos.{Pos}
use Rattle.pk_ast.specs.Trees.{ExpressionTree, ForStartTree, DeclarationTree, StatementTree, ItemTrees, no_items, declaration_then, statement_then, empty, switch, for_loop}
use Rattle.pk_typed.specs.Trees as tree
use Rattle.pk_typed.specs.Trees.{DeclaredTree, ValueTree}
use Rattle.pk_type_scope.specs.declared.declarations.Typing.{Typing}
use Rattle.pk_type_scope.specs.declared.failures.Failure.{Failure}
use Rattle.pk_type_expression.specs.Typed.{of_both}
use Rattle.pk_type_expression.specs.Types.{type_of}
use Rattle.pk_type_declaration.specs.Statics.{after_block_declaration, block_declaration_at}
use Rattle.pk_type_declaration.specs.Walks.{here, after_value, value_at, leaving}
use Rattle.pk_type_statement.specs.declared.statements.Case.{Case}
use Rattle.pk_type_statement.specs.Items.{append_items, and_objects, and_statement, and_items}
use Rattle.pk_type_statement.specs.Statements.{Passed, on, inside, outside, after, after_items, in_switch, after_switch, after_head}
use Rattle.pk_type_statement.specs.Trees.{Labels, HeadTree, EndedTree, of_three, switch_of, ended, head_at, for_tree, declared_all, typed, typed_items}
use Rattle.pk_type_statement.specs.Rules.{noting}
use Rattle.pk_type_statement.proofs.KeepLemmas.{kept, kept_items, kept_head}

abbrev State : Type 0
State = Passed (Option Failure)

-- The scopes at the end of one that was opened: those around it are below it.
pub record Left (p q : State) : Type 0 where
  pub outer : q.walked.scoping.outer ≡ p.walked.scoping.outer ++ p.walked.scoping.inner ∷ []
  pub text : q.walked.scoping.text ≡ p.walked.scoping.text

pub left_positive : (p q : State) → Left p q → 0 < length q.walked.scoping.outer
left_positive p q l =
    let a : length q.walked.scoping.outer ≡ length (p.walked.scoping.outer ++ p.walked.scoping.inner ∷ []) = ap length l.outer in
    let b : length (p.walked.scoping.outer ++ p.walked.scoping.inner ∷ []) ≡ length p.walked.scoping.outer + length (p.walked.scoping.inner ∷ []) = length-append p.walked.scoping.outer (p.walked.scoping.inner ∷ []) in
    omega (arith, a, b)

pub items_left : (r : Typing) (p e q : State) (items : ItemTrees) → e ≡ inside p → q ≡ after_items noting r e items → Left p q
items_left r p e q items a b =
    let h : q ≡ after_items noting r (inside p) items = b ∙ ap (λ x. after_items noting r x items) a in
    let k = kept_items noting r (inside p) items in
    record { outer = ap (λ x. x.walked.scoping.outer) h ∙ k.outer; text = ap (λ x. x.walked.scoping.text) h ∙ k.text }

pub items_passed : (r : Typing) (p e q v : State) (items : ItemTrees) → e ≡ inside p → q ≡ after_items noting r e items → v ≡ on (leaving p.walked) q → v ≡ outside p (after_items noting r (inside p) items)
items_passed r p e q v items a b h = h ∙ ap (on (leaving p.walked)) (b ∙ ap (λ x. after_items noting r x items) a)

in_head : (start : ForStartTree) (test step : Option ExpressionTree) (p e h : State) → e ≡ inside p → h ≡ on (after_head noting.declarations start test step) e → h ≡ on (after_head noting.declarations start test step) (inside p)
in_head start test step p e h a b = b ∙ ap (on (after_head noting.declarations start test step)) a

pub for_left : (r : Typing) (start : ForStartTree) (test step : Option ExpressionTree) (p e h q : State) (s : StatementTree) → e ≡ inside p → h ≡ on (after_head noting.declarations start test step) e → q ≡ after noting r h s → Left p q
for_left r start test step p e h q s a b c =
    let g : State = on (after_head noting.declarations start test step) (inside p) in
    let i : q ≡ after noting r g s = c ∙ ap (λ x. after noting r x s) (in_head start test step p e h a b) in
    let k = kept_head noting.declarations start test step (inside p).walked in
    let l = kept noting r g s in
    record { outer = ap (λ x. x.walked.scoping.outer) i ∙ (l.outer ∙ k.outer); text = ap (λ x. x.walked.scoping.text) i ∙ (l.text ∙ k.text) }

pub for_passed : (r : Typing) (at : Pos) (start : ForStartTree) (test step : Option ExpressionTree) (p e h q v : State) (s : StatementTree) → e ≡ inside p → h ≡ on (after_head noting.declarations start test step) e → q ≡ after noting r h s →
    v ≡ on (leaving p.walked) q → v ≡ after noting r p (for_loop at start test step s)
unfolding after
for_passed r at start test step p e h q v s a b c d =
    d ∙ ap (on (leaving p.walked)) (c ∙ ap (λ x. after noting r x s) (in_head start test step p e h a b))

pub for_typed : (r : Typing) (labels : Labels) (at : Pos) (start : ForStartTree) (test step : Option ExpressionTree) (p e h : State) (s : StatementTree) (hd : Option HeadTree) (bd t : Option tree.StatementTree) →
    e ≡ inside p → h ≡ on (after_head noting.declarations start test step) e → hd ≡ head_at noting.declarations start test step e.walked → bd ≡ typed noting r labels h s → t ≡ of_both (for_tree at) hd bd → t ≡ typed noting r labels p (for_loop at start test step s)
unfolding typed
for_typed r labels at start test step p e h s hd bd t a b c d f =
    f ∙ (ap (λ x. of_both (for_tree at) x bd) (c ∙ ap (λ x. head_at noting.declarations start test step x.walked) a)
    ∙ ap (of_both (for_tree at) (head_at noting.declarations start test step (inside p).walked)) (d ∙ ap (λ x. typed noting r labels x s) (in_head start test step p e h a b)))

in_case : (e : ExpressionTree) (p o n : State) → o ≡ on (after_value noting.declarations e) p → n ≡ in_switch o → n ≡ in_switch (on (after_value noting.declarations e) p)
in_case e p o n a b = b ∙ ap in_switch a

pub switch_passed : (r : Typing) (at : Pos) (e : ExpressionTree) (p o n b v : State) (s : StatementTree) (t : Typing) (cases : List Case) (has : Bool) → o ≡ on (after_value noting.declarations e) p → t ≡ type_of (here p.walked) e → n ≡ in_switch o →
    cases ≡ o.cases → has ≡ o.has_default → b ≡ after noting r n s → v ≡ after_switch noting t cases has b → v ≡ after noting r p (switch at e s)
unfolding after
switch_passed r at e p o n b v s t cases has x y z u w h k =
    let T = type_of (here p.walked) e in
    k ∙ (ap (λ a. after_switch noting a cases has b) y
    ∙ (ap (λ a. after_switch noting T a has b) (u ∙ ap (λ q. q.cases) x)
    ∙ (ap (λ a. after_switch noting T p.cases a b) (w ∙ ap (λ q. q.has_default) x)
    ∙ ap (after_switch noting T p.cases p.has_default) (h ∙ ap (λ a. after noting r a s) (in_case e p o n x z)))))

pub switch_typed : (r : Typing) (labels : Labels) (at : Pos) (e : ExpressionTree) (p o n b : State) (s : StatementTree) (t : Typing) (vt : Option ValueTree) (en : Option EndedTree) (bd made : Option tree.StatementTree) →
    o ≡ on (after_value noting.declarations e) p → t ≡ type_of (here p.walked) e → n ≡ in_switch o → b ≡ after noting r n s → vt ≡ value_at p.walked e → en ≡ ended t b → bd ≡ typed noting r labels n s →
    made ≡ of_three (switch_of at) vt en bd → made ≡ typed noting r labels p (switch at e s)
unfolding typed
switch_typed r labels at e p o n b s t vt en bd made x y z h u w k m =
    let g : State = in_switch (on (after_value noting.declarations e) p) in
    let T = type_of (here p.walked) e in
    m ∙ (ap (λ a. of_three (switch_of at) a en bd) u
    ∙ (ap (λ a. of_three (switch_of at) (value_at p.walked e) a bd) (w ∙ (ap (λ a. ended a b) y ∙ ap (ended T) (h ∙ ap (λ a. after noting r a s) (in_case e p o n x z))))
    ∙ ap (of_three (switch_of at) (value_at p.walked e) (ended T (after noting r g s))) (k ∙ ap (λ a. typed noting r labels a s) (in_case e p o n x z))))

-- The items of a block from a place on.

append_assoc_items : (a b c : tree.ItemTrees) → append_items (append_items a b) c ≡ append_items a (append_items b c)
append_assoc_items tree.no_items b c = refl
append_assoc_items (tree.declared_before d a) b c = ap (tree.declared_before d) (append_assoc_items a b c)
append_assoc_items (tree.statement_before s a) b c = ap (tree.statement_before s) (append_assoc_items a b c)

append_none_items : (a : tree.ItemTrees) → append_items a tree.no_items ≡ a
append_none_items tree.no_items = refl
append_none_items (tree.declared_before d a) = ap (tree.declared_before d) (append_none_items a)
append_none_items (tree.statement_before s a) = ap (tree.statement_before s) (append_none_items a)

declared_append : (ds : List DeclaredTree) (a : tree.ItemTrees) → append_items (declared_all ds tree.no_items) a ≡ declared_all ds a
declared_append [] a = refl
declared_append (d ∷ ds) a = ap (tree.declared_before d) (declared_append ds a)

abbrev Items : Type 0
Items = Option tree.ItemTrees

objects_step : (xs : Items) (ds : Option (List DeclaredTree)) (rest : Items) → and_items xs (of_both declared_all ds rest) ≡ and_items (and_objects xs ds) rest
objects_step None ds rest = refl
objects_step (Some xs) None rest = refl
objects_step (Some xs) (Some ds) None = refl
objects_step (Some xs) (Some ds) (Some rest) = ap Some (sym (append_assoc_items xs (declared_all ds tree.no_items) rest ∙ ap (append_items xs) (declared_append ds rest)))

statement_step : (xs : Items) (s : Option tree.StatementTree) (rest : Items) → and_items xs (of_both tree.statement_before s rest) ≡ and_items (and_statement xs s) rest
statement_step None s rest = refl
statement_step (Some xs) None rest = refl
statement_step (Some xs) (Some s) None = refl
statement_step (Some xs) (Some s) (Some rest) = ap Some (sym (append_assoc_items xs (tree.statement_before s tree.no_items) rest))

items_none : (xs : Items) → and_items xs (Some tree.no_items) ≡ xs
items_none None = refl
items_none (Some xs) = ap Some (append_none_items xs)

none_items : (xs : Items) → and_items (Some tree.no_items) xs ≡ xs
none_items None = refl
none_items (Some xs) = refl

pub declaration_passed : (r : Typing) (w v all : State) (now rest : ItemTrees) (z : Option Pos) (d c : DeclarationTree) → now ≡ declaration_then z d rest → c ≡ d → v ≡ on (after_block_declaration noting.declarations z c) w → after_items noting r w now ≡ all → after_items noting r v rest ≡ all
unfolding after_items
declaration_passed r w v all now rest z d c p q k h =
    ap (λ x. after_items noting r x rest) (k ∙ ap (λ x. on (after_block_declaration noting.declarations z x) w) q) ∙ (ap (λ n. after_items noting r w n) (sym p) ∙ h)

pub statement_passed : (r : Typing) (w v all : State) (now rest : ItemTrees) (s : StatementTree) → now ≡ statement_then s rest → v ≡ after noting r w s → after_items noting r w now ≡ all → after_items noting r v rest ≡ all
unfolding after_items
statement_passed r w v all now rest s p k h = ap (λ x. after_items noting r x rest) k ∙ (ap (λ n. after_items noting r w n) (sym p) ∙ h)

pub empty_passed : (r : Typing) (w v : State) (s : StatementTree) (at : Pos) → s ≡ empty at → v ≡ w → v ≡ after noting r w s
unfolding after
empty_passed r w v s at e h = h ∙ ap (λ t. after noting r w t) (sym e)

pub empty_typed : (r : Typing) (labels : Labels) (w : State) (s : StatementTree) (at : Pos) → s ≡ empty at → Some (tree.empty at) ≡ typed noting r labels w s
unfolding typed
empty_typed r labels w s at e = ap (λ t. typed noting r labels w t) (sym e)

pub end_passed : (r : Typing) (w all : State) (now : ItemTrees) → now ≡ no_items → after_items noting r w now ≡ all → w ≡ all
unfolding after_items
end_passed r w all now p h = ap (λ n. after_items noting r w n) (sym p) ∙ h

pub declaration_typed : (r : Typing) (labels : Labels) (w v : State) (now rest : ItemTrees) (z : Option Pos) (d c : DeclarationTree) (xs ys all : Items) (ds : Option (List DeclaredTree)) → now ≡ declaration_then z d rest → c ≡ d →
    v ≡ on (after_block_declaration noting.declarations z c) w → ds ≡ block_declaration_at noting.declarations z c w.walked → ys ≡ and_objects xs ds → and_items xs (typed_items noting r labels w now) ≡ all → and_items ys (typed_items noting r labels v rest) ≡ all
unfolding typed_items
declaration_typed r labels w v now rest z d c xs ys all ds p q k t y h =
    let u : State = on (after_block_declaration noting.declarations z d) w in
    ap (λ x. and_items ys (typed_items noting r labels x rest)) (k ∙ ap (λ x. on (after_block_declaration noting.declarations z x) w) q)
    ∙ (ap (λ x. and_items x (typed_items noting r labels u rest)) (y ∙ ap (and_objects xs) (t ∙ ap (λ x. block_declaration_at noting.declarations z x w.walked) q))
    ∙ (sym (objects_step xs (block_declaration_at noting.declarations z d w.walked) (typed_items noting r labels u rest))
    ∙ (ap (λ n. and_items xs (typed_items noting r labels w n)) (sym p) ∙ h)))

pub statement_typed : (r : Typing) (labels : Labels) (w v : State) (now rest : ItemTrees) (s : StatementTree) (xs ys all : Items) (one : Option tree.StatementTree) → now ≡ statement_then s rest →
    v ≡ after noting r w s → one ≡ typed noting r labels w s → ys ≡ and_statement xs one → and_items xs (typed_items noting r labels w now) ≡ all → and_items ys (typed_items noting r labels v rest) ≡ all
unfolding typed_items
statement_typed r labels w v now rest s xs ys all one p k t y h =
    ap (λ x. and_items ys (typed_items noting r labels x rest)) k
    ∙ (ap (λ x. and_items x (typed_items noting r labels (after noting r w s) rest)) (y ∙ ap (and_statement xs) t)
    ∙ (sym (statement_step xs (typed noting r labels w s) (typed_items noting r labels (after noting r w s) rest))
    ∙ (ap (λ n. and_items xs (typed_items noting r labels w n)) (sym p) ∙ h)))

pub end_typed : (r : Typing) (labels : Labels) (w p : State) (now items : ItemTrees) (xs first : Items) → now ≡ no_items → first ≡ Some tree.no_items →
    and_items xs (typed_items noting r labels w now) ≡ and_items first (typed_items noting r labels p items) → xs ≡ typed_items noting r labels p items
unfolding typed_items
end_typed r labels w p now items xs first q f h =
    sym (items_none xs) ∙ (ap (λ n. and_items xs (typed_items noting r labels w n)) (sym q) ∙ (h
    ∙ (ap (λ x. and_items x (typed_items noting r labels p items)) f ∙ none_items (typed_items noting r labels p items))))
