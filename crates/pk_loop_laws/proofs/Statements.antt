-- The loops of typed statements count no more than those of the statements.
use Rattle.std.proofs.Common.{ℕ, ◌≤◌, List, [], ◌∷◌, Option, Some, None, length, arith}
use Rattle.pk_ast.specs.Places.{first_place_of}
use Rattle.pk_ast.specs.Trees as ast
use Rattle.pk_ast.specs.Trees.{StatementTree, ItemTrees, no_items, declaration_then, statement_then}
use Rattle.pk_typed.specs.Trees as tree
use Rattle.pk_typed.specs.Trees.{DeclaredTree}
use Rattle.pk_type_scope.specs.declared.declarations.Typing.{Typing}
use Rattle.pk_type_expression.specs.Types.{type_of}
use Rattle.pk_type_declaration.specs.Statics.{after_block_declaration, block_declaration_at}
use Rattle.pk_type_declaration.specs.Walks.{here, after_value, value_at, effect_at}
use Rattle.pk_type_statement.specs.Checks.{StatementChecks}
use Rattle.pk_type_statement.specs.Statements.{Passed, after, on, inside, with_case, with_default, in_switch, after_head}
use Rattle.pk_type_statement.specs.Trees.{Labels, label_at, ended, switch_of, optional_value_at, head_at, for_tree, declared_all, typed, typed_items}
use Rattle.pk_access_laws.specs.Operators.{Counting, if_some}
use Rattle.pk_operator_laws.proofs.Parts.{mapped, both, three}
use Rattle.pk_loop_laws.specs.Loops.{loops_in, loops_in_items}
use Rattle.pk_loop_laws.specs.Trees.{statement_loops, item_loops}

-- one number, whatever is counted
abbrev always : {A : Type 0} → ℕ → A → ℕ
always n x = n

at_most : {A : Type 0} (n : ℕ) (o : Option A) → if_some (always n) o ≤ n
at_most n None = omega arith
at_most n (Some x) = omega arith

declared_count : (q : Counting) (ds : List DeclaredTree) (is : tree.ItemTrees) → loops_in_items q (declared_all ds is) ≤ loops_in_items q is
unfolding loops_in_items
declared_count q [] is = omega arith
declared_count q (d ∷ ds) is = declared_count q ds is

mutual
  unfolding typed typed_items statement_loops item_loops loops_in loops_in_items

  statement_there : {F : Type 0} (q : Counting) (c : StatementChecks F) (r : Typing) (l : Labels) (p : Passed F) (s : StatementTree) → if_some (loops_in q) (typed c r l p s) ≤ statement_loops q s
  statement_there q c r l p (ast.block opened is closed) =
      omega (arith, mapped (tree.block opened) (loops_in_items q) (loops_in q) (λ x. omega arith) (typed_items c r l (inside p) is), items_there q c r l (inside p) is)
  statement_there q c r l p (ast.empty at) = omega arith
  statement_there q c r l p (ast.expression_statement e) =
      omega (arith, mapped (tree.effect (first_place_of e)) (always 0) (loops_in q) (λ x. omega arith) (effect_at p.walked e), at_most 0 (effect_at p.walked e))
  statement_there q c r l p (ast.label x s) =
      omega (arith, both (tree.label x.at) (always 0) (loops_in q) (loops_in q) (λ n t. omega arith) (label_at l p.walked x) (typed c r l p s), at_most 0 (label_at l p.walked x), statement_there q c r l p s)
  statement_there q c r l p (ast.case at e s) =
      let k = with_case c.declarations at e p in
      omega (arith, mapped (tree.case at (length p.cases)) (loops_in q) (loops_in q) (λ t. omega arith) (typed c r l k s), statement_there q c r l k s)
  statement_there q c r l p (ast.default at s) =
      let k = with_default p in
      omega (arith, mapped (tree.default at) (loops_in q) (loops_in q) (λ t. omega arith) (typed c r l k s), statement_there q c r l k s)
  statement_there q c r l p (ast.if_then at e s) =
      let k = on (after_value c.declarations e) p in
      omega (arith, both (tree.if_then at) (always 0) (loops_in q) (loops_in q) (λ v t. omega arith) (value_at p.walked e) (typed c r l k s), at_most 0 (value_at p.walked e), statement_there q c r l k s)
  statement_there q c r l p (ast.if_else at e s t) =
      let k = on (after_value c.declarations e) p in
      let m = after c r k s in
      omega (arith, three (tree.if_else at) (always 0) (loops_in q) (loops_in q) (loops_in q) (λ v x y. omega arith) (value_at p.walked e) (typed c r l k s) (typed c r l m t), at_most 0 (value_at p.walked e), statement_there q c r l k s, statement_there q c r l m t)
  statement_there q c r l p (ast.switch at e s) =
      let k = in_switch (on (after_value c.declarations e) p) in
      let end = ended (type_of (here p.walked) e) (after c r k s) in
      omega (arith, three (switch_of at) (always 0) (always 0) (loops_in q) (loops_in q) (λ v x y. omega arith) (value_at p.walked e) end (typed c r l k s), at_most 0 (value_at p.walked e), at_most 0 end, statement_there q c r l k s)
  statement_there q c r l p (ast.while at e s) =
      let k = on (after_value c.declarations e) p in
      omega (arith, both (tree.while at) (always (q at)) (loops_in q) (loops_in q) (λ v t. omega arith) (value_at p.walked e) (typed c r l k s), at_most (q at) (value_at p.walked e), statement_there q c r l k s)
  statement_there q c r l p (ast.do_while at s e) =
      let w = (after c r p s).walked in
      omega (arith, both (tree.do_while at) (loops_in q) (always (q at)) (loops_in q) (λ t v. omega arith) (typed c r l p s) (value_at w e), at_most (q at) (value_at w e), statement_there q c r l p s)
  statement_there q c r l p (ast.for_loop at start test step s) =
      let k = inside p in
      let m = on (after_head c.declarations start test step) k in
      let head = head_at c.declarations start test step k.walked in
      omega (arith, both (for_tree at) (always (q at)) (loops_in q) (loops_in q) (λ x t. omega arith) head (typed c r l m s), at_most (q at) head, statement_there q c r l m s)
  statement_there q c r l p (ast.goto at x) =
      omega (arith, mapped (tree.goto at) (always 0) (loops_in q) (λ n. omega arith) (label_at l p.walked x), at_most 0 (label_at l p.walked x))
  statement_there q c r l p (ast.continue at) = omega arith
  statement_there q c r l p (ast.break at) = omega arith
  statement_there q c r l p (ast.return at e) =
      omega (arith, mapped (tree.return at) (always 0) (loops_in q) (λ v. omega arith) (optional_value_at p.walked e), at_most 0 (optional_value_at p.walked e))

  pub items_there : {F : Type 0} (q : Counting) (c : StatementChecks F) (r : Typing) (l : Labels) (p : Passed F) (is : ItemTrees) → if_some (loops_in_items q) (typed_items c r l p is) ≤ item_loops q is
  items_there q c r l p no_items = omega arith
  items_there q c r l p (declaration_then s d is) =
      let k = on (after_block_declaration c.declarations s d) p in
      let ds = block_declaration_at c.declarations s d p.walked in
      omega (arith, both declared_all (always 0) (loops_in_items q) (loops_in_items q) (λ xs ts. omega (arith, declared_count q xs ts)) ds (typed_items c r l k is), at_most 0 ds, items_there q c r l k is)
  items_there q c r l p (statement_then s is) =
      let k = after c r p s in
      omega (arith, both tree.statement_before (loops_in q) (loops_in_items q) (loops_in_items q) (λ t ts. omega arith) (typed c r l p s) (typed_items c r l k is), statement_there q c r l p s, items_there q c r l k is)
