-- The calls of expressions and of statements count no more than their operators and calls.
use Rattle.std.proofs.Common.{◌≡◌, ℕ, ◌+◌, ◌≤◌, List, [], ◌∷◌, ◌++◌, Option, Some, None, arith}
use Rattle.std.specs.Prelude.{ℤ, pos}
use Rattle.pk_ctypes.specs.declared.places.Pos.{Pos}
use Rattle.pk_ast.specs.declared.declarations.Specifier.{Specifier}
use Rattle.pk_ast.specs.declared.expressions.Identifier.{Identifier}
use Rattle.pk_ast.specs.Trees as ast
use Rattle.pk_ast.specs.Trees.{OneOrMore, ExpressionTree, ExpressionTrees, no_expressions, expression_then, InitializerItemTree, item_value, item_row, InitializerTree, single, braced, DimensionsTree, DeclaratorTree, EnumeratorTree, EnumerationTree, DeclarationTree, ForStartTree, declaration, expression, StatementTree, ItemTrees, no_items, declaration_then, statement_then}
use Rattle.pk_typed.specs.declared.units.CallSite.{CallSite}
use Rattle.pk_type_scope.specs.declared.declarations.Callee.{Callee}
use Rattle.pk_type_scope.specs.declared.declarations.Callee.TheVariants.{Ordinary, Any, Assume, Assert, Abort}
use Rattle.pk_type_scope.specs.declared.declarations.Declaration.{Declaration}
use Rattle.pk_type_scope.specs.declared.declarations.Declaration.TheVariants.{Object, Function, Enumerator, TypeName}
use Rattle.pk_type_scope.specs.declared.declarations.Typing.{Typing}
use Rattle.pk_type_scope.specs.Declarations.{Names, site_of, own_site}
use Rattle.pk_type_scope.specs.Specifiers.{type_name_among}
use Rattle.pk_type_expression.specs.Typed.{calls, calls_in_all}
use Rattle.pk_type_declaration.specs.declared.words.Words.{Words}
use Rattle.pk_type_declaration.specs.Checks.{DeclarationChecks}
use Rattle.pk_type_declaration.specs.Constants.{after_constant, after_length}
use Rattle.pk_type_declaration.specs.Declarations.{after_columns, after_dimensions, after_initializer, after_head, after_declarator, after_declarators}
use Rattle.pk_type_declaration.specs.Enumerations.{words_at, after_tag, next_number, enumerator_value, after_enumerator_value, after_enumerator, after_enumerators, after_words}
use Rattle.pk_type_declaration.specs.Initializers.{followed_by, item_values, items_values, braced_values, given}
use Rattle.pk_type_declaration.specs.Starts.{after_numbers}
use Rattle.pk_type_declaration.specs.Statics.{after_static_head, after_static, after_statics, after_declaration, after_static_declaration, after_block_declaration}
use Rattle.pk_type_declaration.specs.Walks.{Walked, here, after_value, after_values}
use Rattle.pk_type_statement.specs.Checks.{StatementChecks}
use Rattle.pk_type_statement.specs.Statements as statements
use Rattle.pk_type_statement.specs.Statements.{Passed, after, after_items, on, inside, with_case, with_default, in_switch, after_start, after_optional_value, after_optional_effect, after_return}
use Rattle.pk_access_laws.specs.Operators.{Counting}
use Rattle.pk_access_laws.specs.Laws.{in_calls}
use Rattle.pk_operator_laws.specs.Trees.{in_expression, in_expressions, in_optional, in_initializer_item, in_initializer_items, in_initializer, in_dimensions, in_declarator, in_declarators, in_enumerators, in_enumeration, in_declaration, in_start, in_statement, in_items}

calls_append : (q : Counting) (xs ys : List CallSite) → in_calls q (xs ++ ys) ≡ in_calls q xs + in_calls q ys
calls_append q [] ys = omega arith
calls_append q (x ∷ xs) ys = omega (arith, calls_append q xs ys)

site_counts : (q : Counting) (f : ℕ) (at : Pos) (c : Callee) → in_calls q (site_of f at c) ≤ q at
site_counts q f at (Ordinary r n) = omega arith
site_counts q f at (Any t) = omega arith
site_counts q f at Assume = omega arith
site_counts q f at Assert = omega arith
site_counts q f at Abort = omega arith

own_counts : (q : Counting) (at : Pos) (d : Option Declaration) → in_calls q (own_site at d) ≤ q at
own_counts q at None = omega arith
own_counts q at (Some (Object o)) = omega arith
own_counts q at (Some (Enumerator n)) = omega arith
own_counts q at (Some (TypeName t)) = omega arith
own_counts q at (Some (Function f)) = site_counts q f.number at f.callee

mutual
  unfolding calls calls_in_all in_expression in_expressions

  calls_count : (q : Counting) (d : Names) (e : ExpressionTree) → in_calls q (calls d e) ≤ in_expression q e
  calls_count q d (ast.name x) = omega arith
  calls_count q d (ast.call x es) = omega (arith, calls_append q (own_site x.at (d x)) (calls_in_all d es), own_counts q x.at (d x), all_calls_count q d es)
  calls_count q d (ast.index x at e) = omega (arith, calls_count q d e)
  calls_count q d (ast.element x at e column_at c) = omega (arith, calls_append q (calls d e) (calls d c), calls_count q d e, calls_count q d c)
  calls_count q d (ast.constant at t n) = omega arith
  calls_count q d (ast.character at n) = omega arith
  calls_count q d (ast.parenthesized at e) = calls_count q d e
  calls_count q d (ast.postfix op at e) = omega (arith, calls_count q d e)
  calls_count q d (ast.prefix op at e) = omega (arith, calls_count q d e)
  calls_count q d (ast.unary op at e) = omega (arith, calls_count q d e)
  calls_count q d (ast.cast at words e) = calls_count q d e
  calls_count q d (ast.binary op at a b) = omega (arith, calls_append q (calls d a) (calls d b), calls_count q d a, calls_count q d b)
  calls_count q d (ast.conditional at a b c) =
      omega (arith, calls_append q (calls d a ++ calls d b) (calls d c), calls_append q (calls d a) (calls d b), calls_count q d a, calls_count q d b, calls_count q d c)
  calls_count q d (ast.assignment op at a b) = omega (arith, calls_append q (calls d a) (calls d b), calls_count q d a, calls_count q d b)
  calls_count q d (ast.comma at a b) = omega (arith, calls_append q (calls d a) (calls d b), calls_count q d a, calls_count q d b)

  all_calls_count : (q : Counting) (d : Names) (es : ExpressionTrees) → in_calls q (calls_in_all d es) ≤ in_expressions q es
  all_calls_count q d no_expressions = omega arith
  all_calls_count q d (expression_then e es) = omega (arith, calls_append q (calls d e) (calls_in_all d es), calls_count q d e, all_calls_count q d es)

-- ---- what stands before a place

-- the calls so far
abbrev pub so_far : {F : Type 0} → Counting → Walked F → ℕ
so_far q w = in_calls q w.calls

value_sited : {F : Type 0} (q : Counting) (c : DeclarationChecks F) (e : ExpressionTree) (w : Walked F) → so_far q (after_value c e w) ≤ so_far q w + in_expression q e
value_sited q c e w = omega (arith, calls_append q w.calls (calls (here w) e), calls_count q (here w) e)

values_sited : {F : Type 0} (q : Counting) (c : DeclarationChecks F) (es : ExpressionTrees) (w : Walked F) → so_far q (after_values c es w) ≤ so_far q w + in_expressions q es
values_sited q c es w = omega (arith, calls_append q w.calls (calls_in_all (here w) es), all_calls_count q (here w) es)

columns_sited : {F : Type 0} (q : Counting) (c : DeclarationChecks F) (at : Pos) (e : Option ExpressionTree) (w : Walked F) → so_far q (after_columns c at e w) ≤ so_far q w + in_optional q e
columns_sited q c at None w = omega arith
columns_sited q c at (Some e) w = value_sited q c e w

dimensions_sited : {F : Type 0} (q : Counting) (c : DeclarationChecks F) (at : Pos) (d : Option DimensionsTree) (w : Walked F) → so_far q (after_dimensions c at d w) ≤ so_far q w + in_dimensions q d
dimensions_sited q c at None w = omega arith
dimensions_sited q c at (Some d) w = omega (arith, columns_sited q c at d.columns (after_length c d.length w), value_sited q c d.length w)

-- the values of items
pub followed_counts : (q : Counting) (es fs : ExpressionTrees) → in_expressions q (followed_by es fs) ≡ in_expressions q es + in_expressions q fs
unfolding in_expressions
followed_counts q no_expressions fs = omega arith
followed_counts q (expression_then e es) fs = omega (arith, followed_counts q es fs)

item_counts : (q : Counting) (i : InitializerItemTree) → in_expressions q (item_values i) ≡ in_initializer_item q i
unfolding in_expressions
item_counts q (item_value e) = omega arith
item_counts q (item_row at e es) = omega arith

items_count : (q : Counting) (is : List InitializerItemTree) → in_expressions q (items_values is) ≡ in_initializer_items q is
unfolding in_expressions
items_count q [] = omega arith
items_count q (i ∷ is) = omega (arith, followed_counts q (item_values i) (items_values is), item_counts q i, items_count q is)

pub braced_counts : (q : Counting) (at : Pos) (is : OneOrMore InitializerItemTree) → in_expressions q (braced_values is) ≡ in_initializer q (Some (braced at is))
braced_counts q at is = omega (arith, followed_counts q (item_values is.first) (items_values is.more), item_counts q is.first, items_count q is.more)

initializer_sited : {F : Type 0} (q : Counting) (c : DeclarationChecks F) (i : Option InitializerTree) (w : Walked F) → so_far q (after_initializer c i w) ≤ so_far q w + in_initializer q i
initializer_sited q c None w = omega arith
initializer_sited q c (Some (single e)) w = value_sited q c e w
initializer_sited q c (Some (braced at is)) w = omega (arith, values_sited q c (braced_values is) w, braced_counts q at is)

declarator_sited : {F : Type 0} (q : Counting) (c : DeclarationChecks F) (words : Words) (d : DeclaratorTree) (w : Walked F) → so_far q (after_declarator c words d w) ≤ so_far q w + in_declarator q d
unfolding after_declarator
declarator_sited q c words d w = omega (arith, initializer_sited q c d.initializer (after_head c words d w), dimensions_sited q c d.name.at d.dimensions w)

declarators_sited : {F : Type 0} (q : Counting) (c : DeclarationChecks F) (words : Words) (ds : List DeclaratorTree) (w : Walked F) → so_far q (after_declarators c words ds w) ≤ so_far q w + in_declarators q ds
unfolding after_declarators
declarators_sited q c words [] w = omega arith
declarators_sited q c words (d ∷ ds) w = omega (arith, declarators_sited q c words ds (after_declarator c words d w), declarator_sited q c words d w)

tag_sited : {F : Type 0} (q : Counting) (c : DeclarationChecks F) (x : Option Identifier) (w : Walked F) → so_far q (after_tag c x w) ≤ so_far q w
tag_sited q c None w = omega arith
tag_sited q c (Some x) w = omega arith

enumerator_value_sited : {F : Type 0} (q : Counting) (c : DeclarationChecks F) (next : Option ℤ) (x : Identifier) (e : Option ExpressionTree) (w : Walked F) → so_far q (after_enumerator_value c next x e w) ≤ so_far q w + in_optional q e
enumerator_value_sited q c next x None w = omega arith
enumerator_value_sited q c next x (Some e) w = value_sited q c e w

enumerator_sited : {F : Type 0} (q : Counting) (c : DeclarationChecks F) (next : Option ℤ) (x : EnumeratorTree) (w : Walked F) → so_far q (after_enumerator c next x w) ≤ so_far q w + in_optional q x.value
unfolding after_enumerator
enumerator_sited q c next x w = enumerator_value_sited q c next x.name x.value w

enumerators_sited : {F : Type 0} (q : Counting) (c : DeclarationChecks F) (next : Option ℤ) (xs : List EnumeratorTree) (w : Walked F) → so_far q (after_enumerators c next xs w) ≤ so_far q w + in_enumerators q xs
unfolding after_enumerators
enumerators_sited q c next [] w = omega arith
enumerators_sited q c next (x ∷ xs) w =
    omega (arith, enumerators_sited q c (next_number (enumerator_value w next x.value)) xs (after_enumerator c next x w), enumerator_sited q c next x w)

words_sited : {F : Type 0} (q : Counting) (c : DeclarationChecks F) (words : OneOrMore Specifier) (e : Option EnumerationTree) (w : Walked F) → so_far q (after_words c words e w) ≤ so_far q w + in_enumeration q e
unfolding after_words
words_sited q c words None w = omega arith
words_sited q c words (Some e) w =
    omega (arith, enumerators_sited q c (Some (pos 0)) (e.enumerators.first ∷ e.enumerators.more) (after_tag c (type_name_among words) w), tag_sited q c (type_name_among words) w)

numbers_sited : {F : Type 0} (q : Counting) (c : DeclarationChecks F) (es : ExpressionTrees) (w : Walked F) → so_far q (after_numbers c es w) ≤ so_far q w + in_expressions q es
unfolding after_numbers in_expressions
numbers_sited q c no_expressions w = omega arith
numbers_sited q c (expression_then e es) w = omega (arith, numbers_sited q c es (after_constant c e w), value_sited q c e w)

given_counts : (q : Counting) (i : Option InitializerTree) → in_expressions q (given i) ≤ in_initializer q i
unfolding in_expressions
given_counts q None = omega arith
given_counts q (Some (single e)) = omega arith
given_counts q (Some (braced at is)) = omega (arith, braced_counts q at is)

static_sited : {F : Type 0} (q : Counting) (c : DeclarationChecks F) (words : Words) (d : DeclaratorTree) (w : Walked F) → so_far q (after_static c words d w) ≤ so_far q w + in_declarator q d
unfolding after_static
static_sited q c words d w = omega (arith, numbers_sited q c (given d.initializer) (after_static_head c words d w), given_counts q d.initializer, dimensions_sited q c d.name.at d.dimensions w)

statics_sited : {F : Type 0} (q : Counting) (c : DeclarationChecks F) (words : Words) (ds : List DeclaratorTree) (w : Walked F) → so_far q (after_statics c words ds w) ≤ so_far q w + in_declarators q ds
unfolding after_statics
statics_sited q c words [] w = omega arith
statics_sited q c words (d ∷ ds) w = omega (arith, statics_sited q c words ds (after_static c words d w), static_sited q c words d w)

declaration_sited : {F : Type 0} (q : Counting) (c : DeclarationChecks F) (d : DeclarationTree) (w : Walked F) → so_far q (after_declaration c d w) ≤ so_far q w + in_declaration q d
unfolding after_declaration
declaration_sited q c d w =
    omega (arith, declarators_sited q c (words_at (here w) d.specifiers d.enumeration) d.declarators (after_words c d.specifiers d.enumeration w), words_sited q c d.specifiers d.enumeration w)

block_declaration_sited : {F : Type 0} (q : Counting) (c : DeclarationChecks F) (at : Option Pos) (d : DeclarationTree) (w : Walked F) → so_far q (after_block_declaration c at d w) ≤ so_far q w + in_declaration q d
unfolding after_static_declaration
block_declaration_sited q c None d w = declaration_sited q c d w
block_declaration_sited q c (Some at) d w =
    omega (arith, statics_sited q c (words_at (here w) d.specifiers d.enumeration) d.declarators (after_words c d.specifiers d.enumeration w), words_sited q c d.specifiers d.enumeration w)

-- ---- statements

optional_value_sited : {F : Type 0} (q : Counting) (c : DeclarationChecks F) (e : Option ExpressionTree) (w : Walked F) → so_far q (after_optional_value c e w) ≤ so_far q w + in_optional q e
optional_value_sited q c None w = omega arith
optional_value_sited q c (Some e) w = value_sited q c e w

optional_effect_sited : {F : Type 0} (q : Counting) (c : DeclarationChecks F) (e : Option ExpressionTree) (w : Walked F) → so_far q (after_optional_effect c e w) ≤ so_far q w + in_optional q e
optional_effect_sited q c None w = omega arith
optional_effect_sited q c (Some e) w = value_sited q c e w

return_sited : {F : Type 0} (q : Counting) (c : StatementChecks F) (r : Typing) (at : Pos) (e : Option ExpressionTree) (w : Walked F) → so_far q (after_return c r at e w) ≤ so_far q w + in_optional q e
return_sited q c r at None w = omega arith
return_sited q c r at (Some e) w = value_sited q c.declarations e w

start_sited : {F : Type 0} (q : Counting) (c : DeclarationChecks F) (s : ForStartTree) (w : Walked F) → so_far q (after_start c s w) ≤ so_far q w + in_start q s
start_sited q c (declaration d) w = declaration_sited q c d w
start_sited q c (expression e) w = optional_effect_sited q c e w

head_sited : {F : Type 0} (q : Counting) (c : DeclarationChecks F) (s : ForStartTree) (test step : Option ExpressionTree) (w : Walked F) → so_far q (statements.after_head c s test step w) ≤ so_far q w + in_start q s + in_optional q test + in_optional q step
head_sited q c s test step w =
    let v = after_start c s w in
    omega (arith, optional_effect_sited q c step (after_optional_value c test v), optional_value_sited q c test v, start_sited q c s w)

mutual
  unfolding after after_items in_statement in_items

  statement_sited : {F : Type 0} (q : Counting) (c : StatementChecks F) (r : Typing) (p : Passed F) (s : StatementTree) → so_far q (after c r p s).walked ≤ so_far q p.walked + in_statement q s
  statement_sited q c r p (ast.block opened is closed) = items_sited q c r (inside p) is
  statement_sited q c r p (ast.empty at) = omega arith
  statement_sited q c r p (ast.expression_statement e) = value_sited q c.declarations e p.walked
  statement_sited q c r p (ast.label x s) = statement_sited q c r p s
  statement_sited q c r p (ast.case at e s) = omega (arith, statement_sited q c r (with_case c.declarations at e p) s, value_sited q c.declarations e p.walked)
  statement_sited q c r p (ast.default at s) = statement_sited q c r (with_default p) s
  statement_sited q c r p (ast.if_then at e s) = omega (arith, statement_sited q c r (on (after_value c.declarations e) p) s, value_sited q c.declarations e p.walked)
  statement_sited q c r p (ast.if_else at e s t) =
      let k = on (after_value c.declarations e) p in omega (arith, statement_sited q c r (after c r k s) t, statement_sited q c r k s, value_sited q c.declarations e p.walked)
  statement_sited q c r p (ast.switch at e s) = omega (arith, statement_sited q c r (in_switch (on (after_value c.declarations e) p)) s, value_sited q c.declarations e p.walked)
  statement_sited q c r p (ast.while at e s) = omega (arith, statement_sited q c r (on (after_value c.declarations e) p) s, value_sited q c.declarations e p.walked)
  statement_sited q c r p (ast.do_while at s e) = omega (arith, value_sited q c.declarations e (after c r p s).walked, statement_sited q c r p s)
  statement_sited q c r p (ast.for_loop at start test step s) =
      omega (arith, statement_sited q c r (on (statements.after_head c.declarations start test step) (inside p)) s, head_sited q c.declarations start test step (inside p).walked)
  statement_sited q c r p (ast.goto at x) = omega arith
  statement_sited q c r p (ast.continue at) = omega arith
  statement_sited q c r p (ast.break at) = omega arith
  statement_sited q c r p (ast.return at e) = return_sited q c r at e p.walked

  pub items_sited : {F : Type 0} (q : Counting) (c : StatementChecks F) (r : Typing) (p : Passed F) (is : ItemTrees) → so_far q (after_items c r p is).walked ≤ so_far q p.walked + in_items q is
  items_sited q c r p no_items = omega arith
  items_sited q c r p (declaration_then s d is) = omega (arith, items_sited q c r (on (after_block_declaration c.declarations s d) p) is, block_declaration_sited q c.declarations s d p.walked)
  items_sited q c r p (statement_then s is) = omega (arith, items_sited q c r (after c r p s) is, statement_sited q c r p s)
