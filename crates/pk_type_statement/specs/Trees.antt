-- The typed trees of statements (C99 6.8); none where a rule leaves a part without one.
use Rattle.std.specs.Prelude.{ℕ, ℤ, Bool, Option, Some, None, option_map, List, [], ◌∷◌, length}
use Rattle.pk_ctypes.specs.declared.places.Pos.{Pos}
use Rattle.pk_ctypes.specs.declared.types.IntType.{IntType}
use Rattle.pk_ctypes.specs.Conversions.{promoted}
use Rattle.pk_ctypes.specs.Types.{wrapped}
use Rattle.pk_ast.specs.declared.expressions.Identifier.{Identifier}
use Rattle.pk_ast.specs.Places.{first_place_of}
use Rattle.pk_ast.specs.Trees as ast
use Rattle.pk_ast.specs.Trees.{ExpressionTree, ForStartTree, declaration, expression, no_items, declaration_then, statement_then}
use Rattle.pk_typed.specs.Trees as tree
use Rattle.pk_typed.specs.Trees.{DeclaredTree, ValueTree, EffectTree, StatementTree, ItemTrees}
use Rattle.pk_type_scope.specs.declared.declarations.Typing.{Typing}
use Rattle.pk_type_scope.specs.declared.declarations.Typing.TheVariants.{Void, Integer, Unknown}
use Rattle.pk_type_scope.specs.Scopes.{spelled}
use Rattle.pk_type_expression.specs.Typed.{of_both}
use Rattle.pk_type_expression.specs.Types.{type_of}
use Rattle.pk_type_declaration.specs.Checks.{DeclarationChecks}
use Rattle.pk_type_declaration.specs.Statics.{declaration_trees_at, after_block_declaration, block_declaration_at}
use Rattle.pk_type_declaration.specs.Walks.{Walked, here, after_value, value_at, effect_at}
use Rattle.pk_type_jump.specs.declared.labels.Label.{Label}
use Rattle.pk_type_statement.specs.declared.statements.Case.{Case}
use Rattle.pk_type_statement.specs.Checks.{StatementChecks}
use Rattle.pk_type_statement.specs.Statements.{Passed, on, inside, after, with_case, with_default, in_switch, after_start, after_optional_value, after_head}

abbrev pub Labels : Type 0
Labels = List ℕ → Option Label

-- the number of a label
abbrev pub numbered : Option Label → Option ℕ
numbered None = None
numbered (Some l) = Some l.number

abbrev pub label_at : {F : Type 0} → Labels → Walked F → Identifier → Option ℕ
label_at labels w x = numbered (labels (spelled w.scoping.text x))

abbrev pub of_three : {A B C D : Type 0} → (A → B → C → D) → Option A → Option B → Option C → Option D
of_three f None y z = None
of_three f (Some x) y z = of_both (f x) y z

-- the values of cases, converted to the promoted type of their `switch`
abbrev pub case_numbers : IntType → List Case → Option (List ℤ)
case_numbers t [] = Some []
case_numbers t (c ∷ cs) = of_both (λ n ns. n ∷ ns) (option_map (wrapped t) c.value) (case_numbers t cs)

-- what a `switch` knows at its end: its promoted type, the values of its cases, and whether it has a default
pub record EndedTree : Type 0 where
  pub int_type : IntType
  pub numbers : List ℤ
  pub has_default : Bool

abbrev pub ended_as : IntType → Bool → List ℤ → EndedTree
ended_as t has_default numbers = record { int_type = t; numbers = numbers; has_default = has_default }

abbrev pub ended : {F : Type 0} → Typing → Passed F → Option EndedTree
ended Void p = None
ended (Integer t) p = option_map (ended_as (promoted t) p.has_default) (case_numbers (promoted t) p.cases)
ended Unknown p = None

abbrev pub switch_of : Pos → ValueTree → EndedTree → StatementTree → StatementTree
switch_of at v e s = tree.switch at e.int_type v e.numbers e.has_default s

-- an optional part: its tree, which may be none at all
abbrev pub optional_value_at : {F : Type 0} → Walked F → Option ExpressionTree → Option (Option ValueTree)
optional_value_at w None = Some None
optional_value_at w (Some e) = option_map Some (value_at w e)

abbrev pub optional_effect_at : {F : Type 0} → Walked F → Option ExpressionTree → Option (Option EffectTree)
optional_effect_at w None = Some None
optional_effect_at w (Some e) = option_map Some (effect_at w e)

abbrev pub start_at : {F : Type 0} → DeclarationChecks F → ForStartTree → Walked F → Option tree.ForStartTree
start_at c (declaration d) w = option_map tree.declarations (declaration_trees_at c d w)
start_at c (expression e) w = option_map tree.expression (optional_effect_at w e)

-- the parentheses of a `for`
pub record HeadTree : Type 0 where
  pub start : tree.ForStartTree
  pub test : Option ValueTree
  pub step : Option EffectTree

abbrev pub a_head : tree.ForStartTree → Option ValueTree → Option EffectTree → HeadTree
a_head start test step = record { start = start; test = test; step = step }

abbrev pub head_at : {F : Type 0} → DeclarationChecks F → ForStartTree → Option ExpressionTree → Option ExpressionTree →
    Walked F → Option HeadTree
head_at c start test step w =
    let v = after_start c start w in
    of_three a_head (start_at c start w) (optional_value_at v test)
    (optional_effect_at (after_optional_value c test v) step)

abbrev pub for_tree : Pos → HeadTree → StatementTree → StatementTree
for_tree at h s = tree.for_loop at h.start h.test h.step s

abbrev pub declared_all : List DeclaredTree → ItemTrees → ItemTrees
declared_all [] items = items
declared_all (d ∷ ds) items = tree.declared_before d (declared_all ds items)

unfoldable mutual
  pub typed : {F : Type 0} → StatementChecks F → Typing → Labels → Passed F → ast.StatementTree → Option StatementTree
  typed c r labels p (ast.block opened items closed) =
      option_map (tree.block opened) (typed_items c r labels (inside p) items)
  typed c r labels p (ast.empty at) = Some (tree.empty at)
  typed c r labels p (ast.expression_statement e) = option_map (tree.effect (first_place_of e)) (effect_at p.walked e)
  typed c r labels p (ast.label x s) = of_both (tree.label x.at) (label_at labels p.walked x) (typed c r labels p s)
  typed c r labels p (ast.case at e s) =
      option_map (tree.case at (length p.cases)) (typed c r labels (with_case c.declarations at e p) s)
  typed c r labels p (ast.default at s) = option_map (tree.default at) (typed c r labels (with_default p) s)
  typed c r labels p (ast.if_then at e s) =
      of_both (tree.if_then at) (value_at p.walked e) (typed c r labels (on (after_value c.declarations e) p) s)
  typed c r labels p (ast.if_else at e s t) =
      let q = on (after_value c.declarations e) p in
      of_three (tree.if_else at) (value_at p.walked e) (typed c r labels q s) (typed c r labels (after c r q s) t)
  typed c r labels p (ast.switch at e s) =
      let q = in_switch (on (after_value c.declarations e) p) in
      of_three (switch_of at) (value_at p.walked e) (ended (type_of (here p.walked) e) (after c r q s))
      (typed c r labels q s)
  typed c r labels p (ast.while at e s) =
      of_both (tree.while at) (value_at p.walked e) (typed c r labels (on (after_value c.declarations e) p) s)
  typed c r labels p (ast.do_while at s e) =
      of_both (tree.do_while at) (typed c r labels p s) (value_at (after c r p s).walked e)
  typed c r labels p (ast.for_loop at start test step s) =
      let q = inside p in of_both (for_tree at) (head_at c.declarations start test step q.walked)
      (typed c r labels (on (after_head c.declarations start test step) q) s)
  typed c r labels p (ast.goto at x) = option_map (tree.goto at) (label_at labels p.walked x)
  typed c r labels p (ast.continue at) = Some (tree.continue at)
  typed c r labels p (ast.break at) = Some (tree.break at)
  typed c r labels p (ast.return at e) = option_map (tree.return at) (optional_value_at p.walked e)

  pub typed_items : {F : Type 0} → StatementChecks F → Typing → Labels → Passed F → ast.ItemTrees → Option ItemTrees
  typed_items c r labels p no_items = Some tree.no_items
  typed_items c r labels p (declaration_then s d items) =
      of_both declared_all (block_declaration_at c.declarations s d p.walked)
      (typed_items c r labels (on (after_block_declaration c.declarations s d) p) items)
  typed_items c r labels p (statement_then s items) =
      of_both tree.statement_before (typed c r labels p s) (typed_items c r labels (after c r p s) items)
