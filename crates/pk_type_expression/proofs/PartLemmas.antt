-- A tree by its parts, where each is read through a reference.
use Rattle.std.proofs.Common.{◌≡◌, List, ap, sym, ◌∙◌, Vec, Global}
use Rattle.pk_ctypes.specs.declared.places.Pos.{Pos}
use Rattle.pk_ast.specs.declared.declarations.Specifiers.{Specifiers}
use Rattle.pk_ast.specs.declared.expressions.ElementName.{ElementName}
use Rattle.pk_ast.specs.declared.expressions.Identifier.{Identifier}
use Rattle.pk_ast.specs.declared.expressions.Expression.{Expression}
use Rattle.pk_ast.specs.declared.expressions.Expression.TheVariants.{Call}
use Rattle.pk_ast.specs.Trees.{ExpressionTree, call, cast, element}
use Rattle.pk_ast.specs.Views.{expression_tree, expression_trees, specifiers_tree}
use Rattle.pk_ast.proofs.ViewLemmas.{tree_of_call}

pub one_part : (f : ExpressionTree → ExpressionTree) (t : ExpressionTree) (a x : Expression) → t ≡ f (expression_tree a) → x ≡ a → t ≡ f (expression_tree x)
one_part f t a x h p = h ∙ ap (λ e. f (expression_tree e)) (sym p)

pub two_parts : (f : ExpressionTree → ExpressionTree → ExpressionTree) (t : ExpressionTree) (a b x y : Expression) → t ≡ f (expression_tree a) (expression_tree b) → x ≡ a → y ≡ b → t ≡ f (expression_tree x) (expression_tree y)
two_parts f t a b x y h p q = h ∙ (ap (λ e. f (expression_tree e) (expression_tree b)) (sym p) ∙ ap (λ e. f (expression_tree x) (expression_tree e)) (sym q))

pub three_parts : (f : ExpressionTree → ExpressionTree → ExpressionTree → ExpressionTree) (t : ExpressionTree) (a b c x y z : Expression)
    → t ≡ f (expression_tree a) (expression_tree b) (expression_tree c) → x ≡ a → y ≡ b → z ≡ c → t ≡ f (expression_tree x) (expression_tree y) (expression_tree z)
three_parts f t a b c x y z h p q r =
    two_parts (λ e g. f e g (expression_tree c)) t a b x y h p q ∙ ap (λ e. f (expression_tree x) (expression_tree y) (expression_tree e)) (sym r)

pub element_parts : (t : ExpressionTree) (n m : ElementName) (a b x y : Expression) → t ≡ element n.array n.at (expression_tree a) n.column_at (expression_tree b) → m ≡ n → x ≡ a → y ≡ b → t ≡ element m.array m.at (expression_tree x) m.column_at (expression_tree y)
element_parts t n m a b x y h o p q =
    two_parts (λ e g. element n.array n.at e n.column_at g) t a b x y h p q ∙ ap (λ k. element k.array k.at (expression_tree x) k.column_at (expression_tree y)) (sym o)

pub cast_parts : (t : ExpressionTree) (at : Pos) (s u : Specifiers) (a x : Expression) → t ≡ cast at (specifiers_tree s) (expression_tree a) → u ≡ s → x ≡ a → t ≡ cast at (specifiers_tree u) (expression_tree x)
cast_parts t at s u a x h p q = h ∙ (ap (λ w. cast at (specifiers_tree w) (expression_tree a)) (sym p) ∙ ap (λ e. cast at (specifiers_tree u) (expression_tree e)) (sym q))

-- arguments lie in their tree as a row
pub call_parts : (e : Expression) (x : Identifier) (list : Vec Expression Global) (slice : List Expression) → e ≡ Call x list → slice ≡ list.items → expression_tree e ≡ call x (expression_trees slice)
call_parts e x list slice is same = ap expression_tree is ∙ (tree_of_call x list ∙ ap (λ es. call x (expression_trees es)) (sym same))
