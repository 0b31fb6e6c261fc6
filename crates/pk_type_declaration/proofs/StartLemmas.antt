-- The values that an object begins with from a place on.
use Rattle.std.proofs.Math.Seq.{drop-cons}
use Rattle.std.proofs.lemmas.List.{drop_all, append-nil}
use Rattle.std.proofs.Common.{◌≡◌, ℕ, suc, ◌+◌, ◌<◌, ◌≤◌, ℤ, List, [], ◌∷◌, ◌++◌, Option, drop, get_or, length, add-one, append_assoc, refl, ap, sym, ◌∙◌}
use Rattle.pk_ctypes.specs.declared.types.IntType.{IntType}
use Rattle.pk_ast.specs.declared.expressions.Expression.{Expression}
use Rattle.pk_ast.specs.Trees.{ExpressionTree, ExpressionTrees, no_expressions, expression_then, InitializerItemTree}
use Rattle.pk_ast.specs.Views.{expression_tree, expression_trees}
use Rattle.pk_type_scope.specs.declared.failures.Failure.{Failure}
use Rattle.pk_type_declaration.specs.Constants.{after_constant}
use Rattle.pk_type_declaration.specs.Initializers.{followed_by, item_values, items_values}
use Rattle.pk_type_declaration.specs.Starts.{number_at, after_numbers, numbers_at}
use Rattle.pk_type_declaration.specs.Walks.{Walked}
use Rattle.pk_type_declaration.specs.Rules.{noting}

abbrev State : Type 0
State = Walked (Option Failure)

pub next_expression : (list : List Expression) (i : ℕ) (x : Expression) → i < length list → x ≡ get_or list i x → expression_trees (drop i list) ≡ expression_then (expression_tree x) (expression_trees (drop (i + 1) list))
next_expression list i x h is = rw add-one (ap expression_trees (drop-cons list i x h ∙ ap (λ z. z ∷ drop (suc i) list) (sym is)))

pub last_expression : (list : List Expression) (i : ℕ) → length list ≤ i → expression_trees (drop i list) ≡ no_expressions
last_expression list i h = ap expression_trees (drop_all i list h)

pub numbers_walked : (w v all : State) (e : ExpressionTree) (now rest : ExpressionTrees) → now ≡ expression_then e rest → v ≡ after_constant noting e w → after_numbers noting now w ≡ all → after_numbers noting rest v ≡ all
unfolding after_numbers
numbers_walked w v all e now rest p q h = ap (after_numbers noting rest) q ∙ (ap (λ n. after_numbers noting n w) (sym p) ∙ h)

pub numbers_ended : (w all : State) (now : ExpressionTrees) → now ≡ no_expressions → after_numbers noting now w ≡ all → w ≡ all
unfolding after_numbers
numbers_ended w all now p h = ap (λ n. after_numbers noting n w) (sym p) ∙ h

pub numbers_step : (t : IntType) (w v : State) (e : ExpressionTree) (now rest : ExpressionTrees) (xs ys all : List ℤ) → now ≡ expression_then e rest → v ≡ after_constant noting e w → ys ≡ xs ++ number_at t w e ∷ [] →
    xs ++ numbers_at noting t now w ≡ all → ys ++ numbers_at noting t rest v ≡ all
unfolding numbers_at
numbers_step t w v e now rest xs ys all p q s h =
    ap (λ x. ys ++ numbers_at noting t rest x) q
    ∙ (ap (λ y. y ++ numbers_at noting t rest (after_constant noting e w)) s
    ∙ (append_assoc xs (number_at t w e ∷ []) (numbers_at noting t rest (after_constant noting e w)) ∙ (ap (λ m. xs ++ numbers_at noting t m w) (sym p) ∙ h)))

pub numbers_done : (t : IntType) (w : State) (now : ExpressionTrees) (xs all : List ℤ) → now ≡ no_expressions → xs ++ numbers_at noting t now w ≡ all → xs ≡ all
unfolding numbers_at
numbers_done t w now xs all p h = sym (append-nil xs) ∙ (ap (λ m. xs ++ numbers_at noting t m w) (sym p) ∙ h)

-- items one by one
numbers_walked_followed : (es fs : ExpressionTrees) (w : State) → after_numbers noting (followed_by es fs) w ≡ after_numbers noting fs (after_numbers noting es w)
unfolding after_numbers
numbers_walked_followed no_expressions fs w = refl
numbers_walked_followed (expression_then e es) fs w = numbers_walked_followed es fs (after_constant noting e w)

numbers_followed : (t : IntType) (es fs : ExpressionTrees) (w : State) → numbers_at noting t (followed_by es fs) w ≡ numbers_at noting t es w ++ numbers_at noting t fs (after_numbers noting es w)
unfolding after_numbers numbers_at
numbers_followed t no_expressions fs w = refl
numbers_followed t (expression_then e es) fs w = ap (λ ns. number_at t w e ∷ ns) (numbers_followed t es fs (after_constant noting e w))

pub items_walked : (i : InitializerItemTree) (now rest : List InitializerItemTree) (w v all : State) → now ≡ i ∷ rest → v ≡ after_numbers noting (item_values i) w → after_numbers noting (items_values now) w ≡ all → after_numbers noting (items_values rest) v ≡ all
items_walked i now rest w v all p q h =
    ap (after_numbers noting (items_values rest)) q ∙ (sym (numbers_walked_followed (item_values i) (items_values rest) w) ∙ (ap (λ is. after_numbers noting (items_values is) w) (sym p) ∙ h))

pub items_ended : (now : List InitializerItemTree) (w all : State) → now ≡ [] → after_numbers noting (items_values now) w ≡ all → w ≡ all
unfolding after_numbers
items_ended now w all p h = ap (λ is. after_numbers noting (items_values is) w) (sym p) ∙ h

pub items_step : (t : IntType) (i : InitializerItemTree) (now rest : List InitializerItemTree) (w v : State) (xs ys all : List ℤ) → now ≡ i ∷ rest → v ≡ after_numbers noting (item_values i) w → ys ≡ xs ++ numbers_at noting t (item_values i) w
    → xs ++ numbers_at noting t (items_values now) w ≡ all → ys ++ numbers_at noting t (items_values rest) v ≡ all
items_step t i now rest w v xs ys all p q s h =
    let n : State = after_numbers noting (item_values i) w in
    ap (λ x. ys ++ numbers_at noting t (items_values rest) x) q
    ∙ (ap (λ y. y ++ numbers_at noting t (items_values rest) n) s
    ∙ (append_assoc xs (numbers_at noting t (item_values i) w) (numbers_at noting t (items_values rest) n)
    ∙ (ap (λ z. xs ++ z) (sym (numbers_followed t (item_values i) (items_values rest) w)) ∙ (ap (λ m. xs ++ numbers_at noting t (items_values m) w) (sym p) ∙ h))))

pub items_done : (t : IntType) (now : List InitializerItemTree) (w : State) (xs all : List ℤ) → now ≡ [] → xs ++ numbers_at noting t (items_values now) w ≡ all → xs ≡ all
unfolding numbers_at
items_done t now w xs all p h = sym (append-nil xs) ∙ (ap (λ m. xs ++ numbers_at noting t (items_values m) w) (sym p) ∙ h)

-- the first item, then the others
pub braced_walked : (i : InitializerItemTree) (is : List InitializerItemTree) (w v u : State) → v ≡ after_numbers noting (item_values i) w → u ≡ after_numbers noting (items_values is) v → u ≡ after_numbers noting (items_values (i ∷ is)) w
braced_walked i is w v u p q = q ∙ (ap (after_numbers noting (items_values is)) p ∙ sym (numbers_walked_followed (item_values i) (items_values is) w))

pub braced_numbers : (t : IntType) (i : InitializerItemTree) (is : List InitializerItemTree) (w v : State) (xs ys zs : List ℤ) → v ≡ after_numbers noting (item_values i) w → ys ≡ xs ++ numbers_at noting t (item_values i) w
    → zs ≡ ys ++ numbers_at noting t (items_values is) v → zs ≡ xs ++ numbers_at noting t (items_values (i ∷ is)) w
braced_numbers t i is w v xs ys zs p q h =
    let n : State = after_numbers noting (item_values i) w in
    h ∙ (ap (λ y. y ++ numbers_at noting t (items_values is) v) q
    ∙ (ap (λ x. (xs ++ numbers_at noting t (item_values i) w) ++ numbers_at noting t (items_values is) x) p
    ∙ (append_assoc xs (numbers_at noting t (item_values i) w) (numbers_at noting t (items_values is) n)
    ∙ ap (λ z. xs ++ z) (sym (numbers_followed t (item_values i) (items_values is) w)))))
