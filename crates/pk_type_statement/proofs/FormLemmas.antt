-- What is passed after each form of statement, and its tree, by the steps in which the walk goes over it.
use Rattle.std.proofs.Common.{◌≡◌, ℕ, Result, Ok, Err, Option, ap, ◌∙◌, refl, option_map, length, arith, Vec}
use Rattle.std.specs.Prelude.{IfOk}
use Rattle.std.specs.Vec.{vec_len}
use Rattle.std.specs.declared.alloc.AllocError.{AllocError}
use Rattle.std.specs.declared.alloc.Global.{Global}
use Rattle.std.specs.declared.boxed.Box.{Box}
use Rattle.pk_ctypes.specs.declared.places.Pos.{Pos}
use Rattle.pk_ast.specs.declared.expressions.Identifier.{Identifier}
use Rattle.pk_ast.specs.declared.expressions.Expression.{Expression}
use Rattle.pk_ast.specs.declared.statements.Statement as code
use Rattle.pk_ast.specs.declared.statements.Statement.TheVariants as variants
use Rattle.pk_ast.specs.Trees.{ExpressionTree, StatementTree, label, case, default, if_then, if_else, while, do_while}
use Rattle.pk_ast.specs.Views.{expression_tree, statement_tree}
use Rattle.pk_typed.specs.declared.statements.Statement.{Statement}
use Rattle.pk_typed.specs.Trees as tree
use Rattle.pk_typed.specs.Trees.{ValueTree}
use Rattle.pk_typed.specs.Views as views
use Rattle.pk_type_scope.specs.declared.declarations.Typing.{Typing}
use Rattle.pk_type_scope.specs.declared.failures.Failure.{Failure}
use Rattle.pk_type_expression.specs.Typed.{of_both}
use Rattle.pk_type_declaration.specs.Walks.{after_value, value_at}
use Rattle.pk_type_declaration.proofs.PartLemmas.{map_twice}
use Rattle.pk_type_statement.specs.declared.statements.Case.{Case}
use Rattle.pk_type_statement.specs.Statements.{Passed, on, after, with_case, with_default}
use Rattle.pk_type_statement.specs.Trees.{Labels, label_at, of_three, typed}
use Rattle.pk_type_statement.specs.Views.{statement_in}
use Rattle.pk_type_statement.specs.Rules.{noting}

abbrev State : Type 0
State = Passed (Option Failure)

-- what is made, on the heap
pub made : (r : Result (Option (Box Statement Global)) AllocError) (m : Option Statement) (o : Option tree.StatementTree) → IfOk r (λ b. option_map (λ x. x.value) b ≡ m) → option_map views.statement_tree m ≡ o → IfOk r (λ t. statement_in t ≡ o)
made (Ok b) m o h k = map_twice (λ x. x.value) views.statement_tree b ∙ (ap (option_map views.statement_tree) h ∙ k)
made (Err e) m o h k = tt

-- statements as trees, where each part is read through a reference
abbrev Body : Type 0
Body = Box code.Statement Global

pub if_tree : (s x : code.Statement) (at : Pos) (e : Expression) (b : Body) → s ≡ variants.If at e b → x ≡ b.value → statement_tree s ≡ if_then at (expression_tree e) (statement_tree x)
unfolding statement_tree
if_tree s x at e b is h = rw (is, h) refl

pub if_else_tree : (s x y : code.Statement) (at : Pos) (e : Expression) (b c : Body) → s ≡ variants.IfElse at e b c → x ≡ b.value → y ≡ c.value → statement_tree s ≡ if_else at (expression_tree e) (statement_tree x) (statement_tree y)
unfolding statement_tree
if_else_tree s x y at e b c is h k = rw (is, h, k) refl

pub while_tree : (s x : code.Statement) (at : Pos) (e : Expression) (b : Body) → s ≡ variants.While at e b → x ≡ b.value → statement_tree s ≡ while at (expression_tree e) (statement_tree x)
unfolding statement_tree
while_tree s x at e b is h = rw (is, h) refl

pub do_tree : (s x : code.Statement) (at : Pos) (e : Expression) (b : Body) → s ≡ variants.Do at b e → x ≡ b.value → statement_tree s ≡ do_while at (statement_tree x) (expression_tree e)
unfolding statement_tree
do_tree s x at e b is h = rw (is, h) refl

pub label_tree : (s x : code.Statement) (n : Identifier) (b : Body) → s ≡ variants.Label n b → x ≡ b.value → statement_tree s ≡ label n (statement_tree x)
unfolding statement_tree
label_tree s x n b is h = rw (is, h) refl

pub case_tree : (s x : code.Statement) (at : Pos) (e : Expression) (b : Body) → s ≡ variants.Case at e b → x ≡ b.value → statement_tree s ≡ case at (expression_tree e) (statement_tree x)
unfolding statement_tree
case_tree s x at e b is h = rw (is, h) refl

pub default_tree : (s x : code.Statement) (at : Pos) (b : Body) → s ≡ variants.Default at b → x ≡ b.value → statement_tree s ≡ default at (statement_tree x)
unfolding statement_tree
default_tree s x at b is h = rw (is, h) refl

-- how many cases are before
pub counted : (v : Vec Case Global) (n : ℕ) → n ≡ vec_len v → n ≡ length v.items
counted v n h = omega (arith, v.ok)

-- `if`
pub if_passed : (r : Typing) (t s : StatementTree) (at : Pos) (e : ExpressionTree) (p q v : State) → t ≡ if_then at e s → q ≡ on (after_value noting.declarations e) p → v ≡ after noting r q s → v ≡ after noting r p t
unfolding after
if_passed r t s at e p q v is a b = rw (b, a, is) refl

pub if_typed : (r : Typing) (l : Labels) (t s : StatementTree) (at : Pos) (e : ExpressionTree) (p q : State) (c : Option ValueTree) (b o : Option tree.StatementTree)
    → t ≡ if_then at e s → q ≡ on (after_value noting.declarations e) p → c ≡ value_at p.walked e → b ≡ typed noting r l q s → o ≡ of_both (tree.if_then at) c b → o ≡ typed noting r l p t
unfolding typed
if_typed r l t s at e p q c b o is a h k m = rw (m, k, h, a, is) refl

pub if_else_passed : (r : Typing) (t s u : StatementTree) (at : Pos) (e : ExpressionTree) (p q v w : State) → t ≡ if_else at e s u → q ≡ on (after_value noting.declarations e) p → v ≡ after noting r q s → w ≡ after noting r v u → w ≡ after noting r p t
unfolding after
if_else_passed r t s u at e p q v w is a b c = rw (c, b, a, is) refl

pub if_else_typed : (r : Typing) (l : Labels) (t s u : StatementTree) (at : Pos) (e : ExpressionTree) (p q v : State) (c : Option ValueTree) (b d o : Option tree.StatementTree)
    → t ≡ if_else at e s u → q ≡ on (after_value noting.declarations e) p → v ≡ after noting r q s → c ≡ value_at p.walked e → b ≡ typed noting r l q s → d ≡ typed noting r l v u
    → o ≡ of_three (tree.if_else at) c b d → o ≡ typed noting r l p t
unfolding typed
if_else_typed r l t s u at e p q v c b d o is a x h k n m = rw (m, n, k, h, x, a, is) refl

-- `while`, `do`
pub while_passed : (r : Typing) (t s : StatementTree) (at : Pos) (e : ExpressionTree) (p q v : State) → t ≡ while at e s → q ≡ on (after_value noting.declarations e) p → v ≡ after noting r q s → v ≡ after noting r p t
unfolding after
while_passed r t s at e p q v is a b = rw (b, a, is) refl

pub while_typed : (r : Typing) (l : Labels) (t s : StatementTree) (at : Pos) (e : ExpressionTree) (p q : State) (c : Option ValueTree) (b o : Option tree.StatementTree)
    → t ≡ while at e s → q ≡ on (after_value noting.declarations e) p → c ≡ value_at p.walked e → b ≡ typed noting r l q s → o ≡ of_both (tree.while at) c b → o ≡ typed noting r l p t
unfolding typed
while_typed r l t s at e p q c b o is a h k m = rw (m, k, h, a, is) refl

pub do_passed : (r : Typing) (t s : StatementTree) (at : Pos) (e : ExpressionTree) (p q v : State) → t ≡ do_while at s e → q ≡ after noting r p s → v ≡ on (after_value noting.declarations e) q → v ≡ after noting r p t
unfolding after
do_passed r t s at e p q v is a b = rw (b, a, is) refl

pub do_typed : (r : Typing) (l : Labels) (t s : StatementTree) (at : Pos) (e : ExpressionTree) (p q : State) (c : Option ValueTree) (b o : Option tree.StatementTree)
    → t ≡ do_while at s e → q ≡ after noting r p s → b ≡ typed noting r l p s → c ≡ value_at q.walked e → o ≡ of_both (tree.do_while at) b c → o ≡ typed noting r l p t
unfolding typed
do_typed r l t s at e p q c b o is a h k m = rw (m, k, h, a, is) refl

-- labels, cases and defaults
pub label_passed : (r : Typing) (t s : StatementTree) (x : Identifier) (p v : State) → t ≡ label x s → v ≡ after noting r p s → v ≡ after noting r p t
unfolding after
label_passed r t s x p v is a = rw (a, is) refl

pub label_typed : (r : Typing) (l : Labels) (t s : StatementTree) (x : Identifier) (p : State) (n : Option ℕ) (b o : Option tree.StatementTree)
    → t ≡ label x s → n ≡ label_at l p.walked x → b ≡ typed noting r l p s → o ≡ of_both (tree.label x.at) n b → o ≡ typed noting r l p t
unfolding typed
label_typed r l t s x p n b o is h k m = rw (m, k, h, is) refl

pub case_passed : (r : Typing) (t s : StatementTree) (at : Pos) (e : ExpressionTree) (p q v : State) → t ≡ case at e s → q ≡ with_case noting.declarations at e p → v ≡ after noting r q s → v ≡ after noting r p t
unfolding after
case_passed r t s at e p q v is a b = rw (b, a, is) refl

pub case_typed : (r : Typing) (l : Labels) (t s : StatementTree) (at : Pos) (e : ExpressionTree) (p q : State) (n : ℕ) (b o : Option tree.StatementTree)
    → t ≡ case at e s → q ≡ with_case noting.declarations at e p → n ≡ length p.cases → b ≡ typed noting r l q s → o ≡ option_map (tree.case at n) b → o ≡ typed noting r l p t
unfolding typed
case_typed r l t s at e p q n b o is a h k m = rw (m, k, h, a, is) refl

pub default_passed : (r : Typing) (t s : StatementTree) (at : Pos) (p q v : State) → t ≡ default at s → q ≡ with_default p → v ≡ after noting r q s → v ≡ after noting r p t
unfolding after
default_passed r t s at p q v is a b = rw (b, a, is) refl

pub default_typed : (r : Typing) (l : Labels) (t s : StatementTree) (at : Pos) (p q : State) (b o : Option tree.StatementTree)
    → t ≡ default at s → q ≡ with_default p → b ≡ typed noting r l q s → o ≡ option_map (tree.default at) b → o ≡ typed noting r l p t
unfolding typed
default_typed r l t s at p q b o is a k m = rw (m, k, a, is) refl
