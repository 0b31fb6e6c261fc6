-- The operators of typed statements count no more than those of the statements.
use Rattle.std.proofs.Common.{ℕ, ◌+◌, ◌≤◌, List, [], ◌∷◌, Option, Some, None, length, arith}
use Rattle.pk_ast.specs.Places.{first_place_of}
use Rattle.pk_ast.specs.Trees as ast
use Rattle.pk_ast.specs.Trees.{ExpressionTree, ForStartTree, declaration, expression, StatementTree, ItemTrees, no_items, declaration_then, statement_then}
use Rattle.pk_typed.specs.Trees as tree
use Rattle.pk_typed.specs.Trees.{ValueTree, EffectTree, DeclaredTree}
use Rattle.pk_type_scope.specs.declared.declarations.Typing.{Typing}
use Rattle.pk_type_expression.specs.Types.{type_of}
use Rattle.pk_type_declaration.specs.Checks.{DeclarationChecks}
use Rattle.pk_type_declaration.specs.Statics.{declaration_trees_at, after_block_declaration, block_declaration_at}
use Rattle.pk_type_declaration.specs.Walks.{Walked, here, after_value, value_at, effect_at}
use Rattle.pk_type_statement.specs.Checks.{StatementChecks}
use Rattle.pk_type_statement.specs.Statements.{Passed, after, on, inside, with_case, with_default, in_switch, after_start, after_optional_value, after_head}
use Rattle.pk_type_statement.specs.Trees.{Labels, label_at, ended, switch_of, optional_value_at, optional_effect_at, start_at, HeadTree, a_head, head_at, for_tree, declared_all, typed, typed_items}
use Rattle.pk_access_laws.specs.Operators as made
use Rattle.pk_access_laws.specs.Operators.{Counting, in_value, in_effect, in_all_declared, if_some}
use Rattle.pk_operator_laws.specs.Trees as source
use Rattle.pk_operator_laws.specs.Trees.{in_optional}
use Rattle.pk_operator_laws.proofs.Parts.{zero_of, always, mapped, both, three}
use Rattle.pk_operator_laws.proofs.Walks.{value_there, effect_there, declaration_there, block_declaration_there}

-- ---- parts that may be none

abbrev if_value : Counting → Option ValueTree → ℕ
if_value q = if_some (in_value q)

abbrev if_effect : Counting → Option EffectTree → ℕ
if_effect q = if_some (in_effect q)

optional_value_there : {F : Type 0} (q : Counting) (w : Walked F) (e : Option ExpressionTree) → if_some (if_value q) (optional_value_at w e) ≤ in_optional q e
optional_value_there q w None = omega arith
optional_value_there q w (Some e) = omega (arith, mapped Some (in_value q) (if_value q) (λ v. omega arith) (value_at w e), value_there q w e)

optional_effect_there : {F : Type 0} (q : Counting) (w : Walked F) (e : Option ExpressionTree) → if_some (if_effect q) (optional_effect_at w e) ≤ in_optional q e
optional_effect_there q w None = omega arith
optional_effect_there q w (Some e) = omega (arith, mapped Some (in_effect q) (if_effect q) (λ v. omega arith) (effect_at w e), effect_there q w e)

-- ---- the parentheses of a `for`

start_there : {F : Type 0} (q : Counting) (c : DeclarationChecks F) (s : ForStartTree) (w : Walked F) → if_some (made.in_start q) (start_at c s w) ≤ source.in_start q s
start_there q c (declaration d) w =
    omega (arith, mapped tree.declarations (in_all_declared q) (made.in_start q) (λ ts. omega arith) (declaration_trees_at c d w), declaration_there q c d w)
start_there q c (expression e) w =
    omega (arith, mapped tree.expression (if_effect q) (made.in_start q) (λ x. omega arith) (optional_effect_at w e), optional_effect_there q w e)

abbrev in_head : Counting → HeadTree → ℕ
in_head q h = made.in_start q h.start + if_value q h.test + if_effect q h.step

head_there : {F : Type 0} (q : Counting) (c : DeclarationChecks F) (s : ForStartTree) (test step : Option ExpressionTree) (w : Walked F) → if_some (in_head q) (head_at c s test step w) ≤ source.in_start q s + in_optional q test + in_optional q step
head_there q c s test step w =
    let v = after_start c s w in
    let x = after_optional_value c test v in
    omega (arith, three a_head (made.in_start q) (if_value q) (if_effect q) (in_head q) (λ a b c. omega arith) (start_at c s w) (optional_value_at v test) (optional_effect_at x step), start_there q c s w, optional_value_there q v test, optional_effect_there q x step)

-- ---- statements

declared_count : (q : Counting) (ds : List DeclaredTree) (is : tree.ItemTrees) → made.in_items q (declared_all ds is) ≤ in_all_declared q ds + made.in_items q is
unfolding made.in_items
declared_count q [] is = omega arith
declared_count q (d ∷ ds) is = omega (arith, declared_count q ds is)

mutual
  unfolding typed typed_items source.in_statement source.in_items made.in_statement made.in_items

  statement_there : {F : Type 0} (q : Counting) (c : StatementChecks F) (r : Typing) (l : Labels) (p : Passed F) (s : StatementTree) → if_some (made.in_statement q) (typed c r l p s) ≤ source.in_statement q s
  statement_there q c r l p (ast.block opened is closed) =
      omega (arith, mapped (tree.block opened) (made.in_items q) (made.in_statement q) (λ x. omega arith) (typed_items c r l (inside p) is), items_there q c r l (inside p) is)
  statement_there q c r l p (ast.empty at) = omega arith
  statement_there q c r l p (ast.expression_statement e) =
      omega (arith, mapped (tree.effect (first_place_of e)) (in_effect q) (made.in_statement q) (λ x. omega arith) (effect_at p.walked e), effect_there q p.walked e)
  statement_there q c r l p (ast.label x s) =
      omega (arith, both (tree.label x.at) zero_of (made.in_statement q) (made.in_statement q) (λ n t. omega arith) (label_at l p.walked x) (typed c r l p s), always (label_at l p.walked x), statement_there q c r l p s)
  statement_there q c r l p (ast.case at e s) =
      let k = with_case c.declarations at e p in
      omega (arith, mapped (tree.case at (length p.cases)) (made.in_statement q) (made.in_statement q) (λ t. omega arith) (typed c r l k s), statement_there q c r l k s)
  statement_there q c r l p (ast.default at s) =
      let k = with_default p in
      omega (arith, mapped (tree.default at) (made.in_statement q) (made.in_statement q) (λ t. omega arith) (typed c r l k s), statement_there q c r l k s)
  statement_there q c r l p (ast.if_then at e s) =
      let k = on (after_value c.declarations e) p in
      omega (arith, both (tree.if_then at) (in_value q) (made.in_statement q) (made.in_statement q) (λ v t. omega arith) (value_at p.walked e) (typed c r l k s), value_there q p.walked e, statement_there q c r l k s)
  statement_there q c r l p (ast.if_else at e s t) =
      let k = on (after_value c.declarations e) p in
      let m = after c r k s in
      omega (arith, three (tree.if_else at) (in_value q) (made.in_statement q) (made.in_statement q) (made.in_statement q) (λ v x y. omega arith) (value_at p.walked e) (typed c r l k s) (typed c r l m t), value_there q p.walked e, statement_there q c r l k s, statement_there q c r l m t)
  statement_there q c r l p (ast.switch at e s) =
      let k = in_switch (on (after_value c.declarations e) p) in
      let end = ended (type_of (here p.walked) e) (after c r k s) in
      omega (arith, three (switch_of at) (in_value q) zero_of (made.in_statement q) (made.in_statement q) (λ v x y. omega arith) (value_at p.walked e) end (typed c r l k s), value_there q p.walked e, always end, statement_there q c r l k s)
  statement_there q c r l p (ast.while at e s) =
      let k = on (after_value c.declarations e) p in
      omega (arith, both (tree.while at) (in_value q) (made.in_statement q) (made.in_statement q) (λ v t. omega arith) (value_at p.walked e) (typed c r l k s), value_there q p.walked e, statement_there q c r l k s)
  statement_there q c r l p (ast.do_while at s e) =
      let w = (after c r p s).walked in
      omega (arith, both (tree.do_while at) (made.in_statement q) (in_value q) (made.in_statement q) (λ t v. omega arith) (typed c r l p s) (value_at w e), statement_there q c r l p s, value_there q w e)
  statement_there q c r l p (ast.for_loop at start test step s) =
      let k = inside p in
      let m = on (after_head c.declarations start test step) k in
      omega (arith, both (for_tree at) (in_head q) (made.in_statement q) (made.in_statement q) (λ x t. omega arith) (head_at c.declarations start test step k.walked) (typed c r l m s), head_there q c.declarations start test step k.walked, statement_there q c r l m s)
  statement_there q c r l p (ast.goto at x) = omega (arith, mapped (tree.goto at) zero_of (made.in_statement q) (λ n. omega arith) (label_at l p.walked x), always (label_at l p.walked x))
  statement_there q c r l p (ast.continue at) = omega arith
  statement_there q c r l p (ast.break at) = omega arith
  statement_there q c r l p (ast.return at e) =
      omega (arith, mapped (tree.return at) (if_value q) (made.in_statement q) (λ v. omega arith) (optional_value_at p.walked e), optional_value_there q p.walked e)

  pub items_there : {F : Type 0} (q : Counting) (c : StatementChecks F) (r : Typing) (l : Labels) (p : Passed F) (is : ItemTrees) → if_some (made.in_items q) (typed_items c r l p is) ≤ source.in_items q is
  items_there q c r l p no_items = omega arith
  items_there q c r l p (declaration_then s d is) =
      let k = on (after_block_declaration c.declarations s d) p in
      omega (arith, both declared_all (in_all_declared q) (made.in_items q) (made.in_items q) (declared_count q) (block_declaration_at c.declarations s d p.walked) (typed_items c r l k is), block_declaration_there q c.declarations s d p.walked, items_there q c r l k is)
  items_there q c r l p (statement_then s is) =
      let k = after c r p s in
      omega (arith, both tree.statement_before (made.in_statement q) (made.in_items q) (made.in_items q) (λ t ts. omega arith) (typed c r l p s) (typed_items c r l k is), statement_there q c r l p s, items_there q c r l k is)
